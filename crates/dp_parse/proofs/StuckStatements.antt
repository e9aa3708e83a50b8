-- Where a statement is stuck, the tokens before that place begin one.
use Rattle.std.proofs.Common.{◌≡◌, refl, ap, ◌∙◌, sym, ℕ, zero, suc, Bool, true, false, List, [], ◌∷◌, length, ◌⊎◌, inl, inr, Ok, Err}
use Rattle.dp_lex.specs.Token.{Lexeme}
use Rattle.dp_tree.specs.declared.raw.Name.{Name as TreeName}
use Rattle.dp_tree.specs.declared.raw.RawStmt.{RawStmt}
use Rattle.dp_tokens.specs.declared.symbol.Symbol.{Symbol}
use Rattle.dp_tokens.specs.declared.symbol.Symbol.TheVariants.{Name, Int, Print, While, For, If, Else, OpenParen, CloseParen, OpenBrace, CloseBrace, Semicolon}
use Rattle.dp_tokens.specs.Symbols.{symbol_at, Is}
use Rattle.dp_tokens.specs.Leaves.{name_of}
use Rattle.dp_parse.specs.Statements.{DerivesStatement}
use Rattle.dp_parse.specs.Rules.{Part, Word, Of, Arguments, Condition, Head, Statement, Choice, Block, Statements}
use Rattle.dp_parse.specs.Begins.{Begins, BeginsParts, nothing, by, within, token, past}
use Rattle.dp_parse.specs.Rules as rule
use Rattle.dp_tokens.specs.Steps.{Outcome, Parser, ◌>>=◌, pure, parse_then, expect, sees_symbol, many}
use Rattle.dp_tokens.specs.Steps as step
use Rattle.dp_parse.specs.steps.Statements as read
use Rattle.dp_parse.proofs.StepLemmas.{Sound, saw}
use Rattle.dp_parse.proofs.LeafLemmas.{read_name}
use Rattle.dp_parse.proofs.StatementForms.{behind_name, sound_condition, sound_arguments}
use Rattle.dp_parse.proofs.StatementSound.{many_statements, sound_block, sound_statement}
use Rattle.dp_parse.proofs.Stuck.{Fails, Reader, seq, done, word, name_stuck, reader, cases, FailsOr, seq_or, Eaten, passed, stayed, eaten, refused, many_stuck}
use Rattle.dp_parse.proofs.StuckExpressions.{expr, list_stuck}
use Rattle.dp_parse.proofs.StuckHeads.{Assigned, scalar, element, assign_then, declare_then, head}

pub condition_stuck : (from to : List Lexeme) → read.condition from ≡ Err to → Begins Condition from to
unfolding read.condition
condition_stuck from to h = by rule.condition (seq (word OpenParen) _ (λ _. seq expr _ (λ inside. seq (word CloseParen) _ (λ _. done))) from to h)

pub test : Reader read.condition (Of Condition)
test = reader Condition read.condition (λ from to a e. (a, sound_condition from to a e)) condition_stuck

semicolon : (s : RawStmt) → Fails (expect Semicolon >>= (λ _. pure s)) (Word Semicolon ∷ [])
semicolon s from to h = seq (word Semicolon) _ (λ _. done) from to h

declaration_stuck : (from to : List Lexeme) → read.declaration from ≡ Err to → Begins Statement from to
unfolding read.declaration
declaration_stuck from to h = by rule.declare (declare_then (Word Semicolon ∷ []) _ semicolon from to h)

arguments_at : (b : Bool) (from to : List Lexeme) → read.arguments_by b from ≡ Err to → Begins Arguments from to
arguments_at true from to h = absurd (cc h)
arguments_at false from to h = by rule.arguments (within (list_stuck from to h))

pub arguments_stuck : (from to : List Lexeme) → read.arguments from ≡ Err to → Begins Arguments from to
unfolding read.arguments
arguments_stuck from to h = arguments_at (sees_symbol CloseParen from) from to h

given : Reader read.arguments (Of Arguments)
given = reader Arguments read.arguments (λ from to a e. (a, sound_arguments from to a e)) arguments_stuck

call_fails : (name : TreeName) → Fails (read.call name) (Word OpenParen ∷ Of Arguments ∷ Word CloseParen ∷ Word Semicolon ∷ [])
unfolding read.call
call_fails name from to h = seq (word OpenParen) _ (λ _. seq given _ (λ args. seq (word CloseParen) _ (λ _. seq (word Semicolon) _ (λ _. done)))) from to h

assigned : (name : Lexeme) (from to : List Lexeme) → Is Name name → Assigned (Word Semicolon ∷ []) from to → Begins Statement (name ∷ from) to
assigned name from to is (scalar b) = by rule.assign (token is b)
assigned name from to is (element b) = by rule.store (token is b)

named_at : (name : Lexeme) (b : Bool) (from to : List Lexeme) → Is Name name → read.named_by (name_of name) b from ≡ Err to → Begins Statement (name ∷ from) to
named_at name true from to is h = by rule.call (token is (call_fails (name_of name) from to h))
named_at name false from to is h = assigned name from to is (assign_then (Word Semicolon ∷ []) (name_of name) _ semicolon from to h)

named_stuck : (from to : List Lexeme) → read.named from ≡ Err to → Begins Statement from to
unfolding read.named
named_stuck from to h =
    cases step.name behind_name (Begins Statement) (λ from to e. rw (name_stuck from to e) nothing)
    (λ from middle to name e f.
    let n = read_name from middle name e in
    rw n.splits (named_at n.token (sees_symbol OpenParen middle) middle to n.is (ap (λ (name : TreeName). behind_name name middle) (sym n.called) ∙ f))) from to
    h

print_stuck : (from to : List Lexeme) → read.print from ≡ Err to → Begins Statement from to
unfolding read.print
print_stuck from to h = by rule.print (seq (word Print) _ (λ word_. seq test _ (λ value. seq (word Semicolon) _ (λ _. done))) from to h)

module _ (statement : Parser RawStmt) (sound : Sound statement DerivesStatement)
    (fails : (from to : List Lexeme) → statement from ≡ Err to → Begins Statement from to)
    (fails_if : (from to : List Lexeme) → symbol_at from ≡ If → statement from ≡ Err to → Begins Choice from to) where
  body : Reader (λ ts. many (sees_symbol CloseBrace) statement (length ts) [] ts) (Of Statements)
  body = reader Statements (λ ts. many (sees_symbol CloseBrace) statement (length ts) [] ts)
      (λ from to a e. let m = many_statements statement sound (length from) from to [] a e in (m.0, m.2))
      (λ from to e. many_stuck Statements statement (λ from to e. by rule.more_statements (within (fails from to e))) (sees_symbol CloseBrace)
      (λ from middle to s e b. by rule.more_statements (past (s, sound from middle s e) (within b))) (length from) [] from to e)

  pub block_stuck : (from to : List Lexeme) → read.block statement from ≡ Err to → Begins Block from to
  unfolding read.block
  block_stuck from to h = by rule.block (seq (word OpenBrace) _ (λ _. seq body _ (λ body. seq (word CloseBrace) _ (λ _. done))) from to h)

  pub block : Reader (read.block statement) (Of Block)
  block = reader Block (read.block statement) (λ from to a e. (a, sound_block statement sound from to a e)) block_stuck

  repeated_fails : Fails (read.repeated statement) (Word While ∷ Of Condition ∷ Of Block ∷ [])
  unfolding read.repeated
  repeated_fails from to h = seq (word While) _ (λ word_. seq test _ (λ cond. seq block _ (λ body. done))) from to h

  counted_fails : Fails (read.counted statement) (Word For ∷ Of Head ∷ Of Block ∷ [])
  unfolding read.counted
  counted_fails from to h = seq (word For) _ (λ word_. seq head _ (λ head. seq block _ (λ body. done))) from to h

  single : (inside to : List Lexeme) → symbol_at inside ≡ If → (o : Outcome RawStmt) → statement inside ≡ o → parse_then o (λ s. pure (s ∷ [])) ≡ Err to →
      Begins Choice inside to
  single inside to at (Ok x) is e = absurd (cc e)
  single inside to at (Err left) is e = let same : left ≡ to = cc e in fails_if inside to at (is ∙ ap Err same)

  else_at : (inside to : List Lexeme) (b : Bool) → sees_symbol If inside ≡ b → read.else_by statement b inside ≡ Err to → BeginsParts (Of Block ∷ []) inside to
      ⊎ BeginsParts (Of Choice ∷ []) inside to
  else_at inside to true seen h = inr (within (single inside to (saw If inside seen) (statement inside) refl h))
  else_at inside to false seen h = inl (within (block_stuck inside to h))

  else_behind : (t : Lexeme) (inside from to : List Lexeme) → Is Else t → from ≡ t ∷ inside → BeginsParts (Of Block ∷ []) inside to
      ⊎ BeginsParts (Of Choice ∷ []) inside to →
      BeginsParts (Word Else ∷ Of Block ∷ []) from to ⊎ BeginsParts (Word Else ∷ Of Choice ∷ []) from to
  else_behind t inside from to is splits (inl b) = inl (rw splits (token is b))
  else_behind t inside from to is splits (inr b) = inr (rw splits (token is b))

  otherwise_at : (from to : List Lexeme) → Eaten Else (read.otherwise_by statement) from (Err to) → BeginsParts (Word Else ∷ Of Block ∷ []) from to
      ⊎ BeginsParts (Word Else ∷ Of Choice ∷ []) from to
  otherwise_at from to (passed t inside is splits h) = else_behind t inside from to is splits (else_at inside to (sees_symbol If inside) refl h)
  otherwise_at from to (stayed other h) = absurd (cc h)

  pub otherwise_fails : FailsOr (read.otherwise statement) (Word Else ∷ Of Block ∷ []) (Word Else ∷ Of Choice ∷ [])
  unfolding read.otherwise
  otherwise_fails from to h = otherwise_at from to (eaten Else (read.otherwise_by statement) (Err to) from (λ k. cc k) h)

  pub chosen : {from to : List Lexeme} → BeginsParts (Word If ∷ Of Condition ∷ Of Block ∷ Word Else ∷ Of Block ∷ []) from to
      ⊎ BeginsParts (Word If ∷ Of Condition ∷ Of Block ∷ Word Else ∷ Of Choice ∷ []) from to → Begins Choice from to
  chosen (inl b) = by rule.otherwise b
  chosen (inr b) = by rule.else_if b

  pub mapped_or : {A B : Type 0} {p : Parser A} {a b : List Part} → FailsOr p a b → (f : A → B) → FailsOr (p >>= (λ x. pure (f x))) a b
  mapped_or {A} {B} {p} {a} {b} goes f from to e = at (p from) refl e
    where
      at : (o : Outcome A) → p from ≡ o → parse_then o (λ x. pure (f x)) ≡ Err to → BeginsParts a from to ⊎ BeginsParts b from to
      at (Ok x) is e = absurd (cc e)
      at (Err left) is e = let same : left ≡ to = cc e in goes from to (is ∙ ap Err same)

  pub choice_stuck : (from to : List Lexeme) → read.choice statement from ≡ Err to → Begins Choice from to
  unfolding read.choice
  choice_stuck from to h = chosen (seq_or (word If) _ (λ word_. seq_or test _ (λ cond. seq_or block _ (λ then_part. mapped_or otherwise_fails _))) from to h)

  pub statement_at : (k : Symbol) (from to : List Lexeme) → read.statement_by statement k from ≡ Err to → Begins Statement from to
  statement_at Int from to h = declaration_stuck from to h
  statement_at Name from to h = named_stuck from to h
  statement_at Print from to h = print_stuck from to h
  statement_at While from to h = by rule.loop (repeated_fails from to h)
  statement_at For from to h = by rule.for_loop (counted_fails from to h)
  statement_at _ from to h = by rule.choice (within (choice_stuck from to h))

mutual
  unfolding read.statement

  pub statement_stuck : (n : ℕ) (from to : List Lexeme) → read.statement n from ≡ Err to → Begins Statement from to
  statement_stuck zero from to h = refused from to h
  statement_stuck (suc n) from to h = statement_at (read.statement n) (sound_statement n) (statement_stuck n) (if_stuck n) (symbol_at from) from to h

  pub if_stuck : (n : ℕ) (from to : List Lexeme) → symbol_at from ≡ If → read.statement n from ≡ Err to → Begins Choice from to
  if_stuck zero from to at h = refused from to h
  if_stuck (suc n) from to at h =
      choice_stuck (read.statement n) (sound_statement n) (statement_stuck n) (if_stuck n) from to
      (ap (λ (k : Symbol). read.statement_by (read.statement n) k from) (sym at) ∙ h)
