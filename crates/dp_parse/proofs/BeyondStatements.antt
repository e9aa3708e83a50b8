-- A statement is read at least to the end of what begins it.
use Rattle.std.proofs.Common.{◌≡◌, refl, ap, ◌∙◌, sym, ℕ, zero, suc, ◌≤◌, ◌-◌, Bool, true, false, List, [], ◌∷◌, ◌++◌, length, arith}
use Rattle.dp_lex.specs.Token.{Lexeme}
use Rattle.dp_tree.specs.declared.raw.RawStmt.{RawStmt}
use Rattle.dp_tokens.specs.declared.symbol.Symbol.{Symbol}
use Rattle.dp_tokens.specs.declared.symbol.Symbol.TheVariants.{Name, Int, Print, While, For, If, Else, Assign, OpenParen, OpenBracket, OpenBrace, CloseBrace}
use Rattle.dp_tokens.specs.Symbols.{symbol_at, Is}
use Rattle.dp_parse.specs.Rules.{Part, Word, Of, Condition, Head, Statement, Choice, Block, Statements}
use Rattle.dp_parse.specs.Rules as rule
use Rattle.dp_tokens.specs.Steps.{pure, sees_symbol, after, many}
use Rattle.dp_parse.specs.steps.Heads as heads
use Rattle.dp_parse.specs.steps.Statements as read
use Rattle.dp_parse.proofs.StepLemmas.{is_same, eats, sees_other, after-le}
use Rattle.dp_parse.proofs.StatementSound.{sound_statement}
use Rattle.dp_parse.proofs.StatementReads.{begins, choice_first, first_not, begins_not}
use Rattle.dp_parse.proofs.Spans.{shorter}
use Rattle.dp_parse.proofs.Lists.{many_turn}
use Rattle.dp_parse.proofs.StatementComplete.{reads_statement, reads_statements, reads_block}
use Rattle.dp_parse.proofs.StuckStatements.{statement_stuck}
use Rattle.dp_parse.proofs.Going.{Goes, GoesParts, by, last, token, within, past, word_first}
use Rattle.dp_parse.proofs.Beyond.{Beyond, Shrinks, shrinks_as, further, same_beyond, and_on, pure_shrinks, Reading, Inner, part_and, word_and, finished, ends}
use Rattle.dp_parse.proofs.Beyond.{mapped_and, word_less, many_shrinks, many_first}
use Rattle.dp_parse.proofs.BeyondHeads.{head}
use Rattle.dp_parse.proofs.BeyondCalls.{test, declaration_read, print_read, scalar_read, element_read, named_read, sees_paren, sees_no_paren, call_read}

-- ---- which symbols begin a statement

pub statements_first : {from to : List Lexeme} → Goes Statements from to → (k : Symbol) → begins k ≡ false → symbol_at from ≡ k → ⊥
statements_first (by rule.more_statements (within g)) k off at = first_not g k off at
statements_first (by rule.more_statements (past d g)) k off at = begins_not d.1 k off at

-- ---- blocks

pub statement_shrinks : (n : ℕ) → Shrinks (read.statement n)
statement_shrinks n = shrinks_as Statement (read.statement n) (λ from to a e. (a, sound_statement n from to a e)) (statement_stuck n)

module _ (n : ℕ) (goes : (from to : List Lexeme) → length from ≤ n → Goes Statement from to → Beyond (read.statement n from) to) where
  many_goes : {from to : List Lexeme} → Goes Statements from to → (k : ℕ) (found : List RawStmt) → length from ≤ n → length from ≤ k →
      Beyond (many (sees_symbol CloseBrace) (read.statement n) k found from) to
  many_goes (by {from} {to} rule.more_statements (within g)) k found fits enough =
      many_first (read.statement n) (statement_shrinks n) (sees_symbol CloseBrace) k found from to enough
      (sees_other CloseBrace from (first_not g CloseBrace refl)) (goes from to fits g)
  many_goes (by {from} {to} rule.more_statements (past {middle} d (within g))) k found fits enough =
      let less = shorter Statement _ _ refl d in
      let reads = reads_statement d.1 n fits (statements_first g Else refl) in
      same_beyond to (many_turn (read.statement n) (sees_symbol CloseBrace) k found from middle d.0
      (sees_other CloseBrace from (begins_not d.1 CloseBrace refl)) reads less enough)
      (many_goes g (k - 1) (found ++ d.0 ∷ []) (omega arith) (omega arith))

  body : Inner (λ ts. many (sees_symbol CloseBrace) (read.statement n) (length ts) [] ts) Statements n (Word CloseBrace ∷ [])
  body = record {
    shrinks = λ from. many_shrinks (read.statement n) (statement_shrinks n) (sees_symbol CloseBrace) (length from) [] from;
    goes = λ from to fits g. many_goes g (length from) [] fits (omega arith);
    reads = λ from middle to fits d g. (d.0, reads_statements d.1 n fits (word_first g) [] (length from) (omega arith));
  }

  block_read : Reading (read.block (read.statement n)) n (Word OpenBrace ∷ Of Statements ∷ Word CloseBrace ∷ [])
  unfolding read.block
  block_read = word_and OpenBrace n _ _ (λ _. part_and _ Statements n _ body _ (λ body. word_and CloseBrace n [] _ (λ _. ends)))

  pub block_goes : (from to : List Lexeme) → length from ≤ n → Goes Block from to → Beyond (read.block (read.statement n) from) to
  block_goes from to fits (by rule.block g) = block_read.goes from to fits g

  pub block : (parts : List Part) → Inner (read.block (read.statement n)) Block n parts
  block parts = record {
    shrinks = block_read.shrinks;
    goes = block_goes;
    reads = λ from middle to fits d g. (d.0, reads_block d.1 n (omega arith));
  }

  repeated_read : Reading (read.repeated (read.statement n)) (suc n) (Word While ∷ Of Condition ∷ Of Block ∷ [])
  unfolding read.repeated
  repeated_read = word_less While n _ _ (λ word_. part_and read.condition Condition n _ (test n _) _ (λ cond. part_and _ Block n _ (block _) _ (λ body. ends)))

  counted_read : Reading (read.counted (read.statement n)) (suc n) (Word For ∷ Of Head ∷ Of Block ∷ [])
  unfolding read.counted
  counted_read = word_less For n _ _ (λ word_. part_and heads.head Head n _ (head n _) _ (λ head. part_and _ Block n _ (block _) _ (λ body. ends)))

  else_shrinks : (b : Bool) → Shrinks (read.else_by (read.statement n) b)
  else_shrinks true from = and_on (read.statement n) (λ s. pure (s ∷ [])) (λ s. pure_shrinks (s ∷ [])) from from (statement_shrinks n from)
  else_shrinks false from = block_read.shrinks from

  otherwise_by : (b : Bool) → Shrinks (read.otherwise_by (read.statement n) b)
  otherwise_by true from = else_shrinks (sees_symbol If from) from
  otherwise_by false from = omega arith

  pub otherwise_shrinks : Shrinks (read.otherwise (read.statement n))
  unfolding read.otherwise
  otherwise_shrinks from = further _ (after Else from) from (after-le Else from) (otherwise_by (sees_symbol Else from) (after Else from))

  -- behind an `else`
  else_beyond : (t : Lexeme) (from to : List Lexeme) → Is Else t → Beyond (read.else_by (read.statement n) (sees_symbol If from) from) to →
      Beyond (read.otherwise (read.statement n) (t ∷ from)) to
  unfolding read.otherwise
  else_beyond t from to a h = same_beyond to (eats Else (read.otherwise_by (read.statement n)) t from a) h

  block_first : {from to : List Lexeme} → Goes Block from to → symbol_at from ≡ OpenBrace
  unfolding symbol_at
  block_first (by rule.block (last a)) = a
  block_first (by rule.block (token a g)) = a

  pub else_block : (from to : List Lexeme) → length from ≤ n → GoesParts (Word Else ∷ Of Block ∷ []) from to →
      Beyond (read.otherwise (read.statement n) from) to
  else_block from to fits (last {t} a) = else_beyond t to to a (else_shrinks (sees_symbol If to) to)
  else_block from to fits (token {t} {from = middle} a (within g)) =
      else_beyond t middle to a
      (same_beyond to (ap (λ (b : Bool). read.else_by (read.statement n) b middle)
      (sees_other If middle (λ k. let clash : OpenBrace ≡ If = sym (block_first g) ∙ k in cc clash))) (block_goes middle to (omega arith) g))

  pub else_choice : (from to : List Lexeme) → length from ≤ n → GoesParts (Word Else ∷ Of Choice ∷ []) from to →
      Beyond (read.otherwise (read.statement n) from) to
  unfolding sees_symbol
  else_choice from to fits (last {t} a) = else_beyond t to to a (else_shrinks (sees_symbol If to) to)
  else_choice from to fits (token {t} {from = middle} a (within g)) =
      else_beyond t middle to a (same_beyond to (ap (λ (b : Bool). read.else_by (read.statement n) b middle) (is_same (symbol_at middle) If (choice_first g)))
      (and_on (read.statement n) (λ s. pure (s ∷ [])) (λ s. pure_shrinks (s ∷ [])) middle to (goes middle to (omega arith) (by rule.choice (within g)))))

  choice_read : (parts : List Part) → Reading (read.otherwise (read.statement n)) n parts →
      Reading (read.choice (read.statement n)) (suc n) (Word If ∷ Of Condition ∷ Of Block ∷ parts)
  unfolding read.choice
  choice_read parts r =
      word_less If n _ _ (λ word_. part_and read.condition Condition n _ (test n _) _
      (λ cond. part_and _ Block n _ (block _) _ (λ then_part. mapped_and _ n _ r _)))

  choice_goes : (from to : List Lexeme) → length from ≤ suc n → Goes Choice from to → Beyond (read.choice (read.statement n) from) to
  choice_goes from to fits (by rule.alone g) = (choice_read [] (finished (read.otherwise (read.statement n)) n otherwise_shrinks)).goes from to fits g
  choice_goes from to fits (by rule.otherwise g) = (choice_read _ (record { shrinks = otherwise_shrinks; goes = else_block })).goes from to fits g
  choice_goes from to fits (by rule.else_if g) = (choice_read _ (record { shrinks = otherwise_shrinks; goes = else_choice })).goes from to fits g

  opened : (k : Symbol) (from to : List Lexeme) → symbol_at from ≡ k → Beyond (read.statement_by (read.statement n) k from) to →
      Beyond (read.statement (suc n) from) to
  unfolding read.statement
  opened k from to at h = same_beyond to (ap (λ (s : Symbol). read.statement_by (read.statement n) s from) at) h

  pub deeper : (from to : List Lexeme) → length from ≤ suc n → Goes Statement from to → Beyond (read.statement (suc n) from) to
  deeper from to fits (by rule.declare g) = opened Int from to (word_first g) ((declaration_read (suc n)).goes from to fits g)
  deeper from to fits (by rule.assign g) =
      opened Name from to (word_first g) ((named_read (suc n) Assign _ false (sees_no_paren Assign (λ e. cc e)) (scalar_read (suc n))).goes from to fits g)
  deeper from to fits (by rule.store g) =
      opened Name from to (word_first g)
      ((named_read (suc n) OpenBracket _ false (sees_no_paren OpenBracket (λ e. cc e)) (element_read (suc n))).goes from to fits g)
  deeper from to fits (by rule.call g) =
      opened Name from to (word_first g) ((named_read (suc n) OpenParen _ true sees_paren (call_read (suc n))).goes from to fits g)
  deeper from to fits (by rule.print g) = opened Print from to (word_first g) ((print_read (suc n)).goes from to fits g)
  deeper from to fits (by rule.loop g) = opened While from to (word_first g) (repeated_read.goes from to fits g)
  deeper from to fits (by rule.for_loop g) = opened For from to (word_first g) (counted_read.goes from to fits g)
  deeper from to fits (by rule.choice (within g)) = opened If from to (choice_first g) (choice_goes from to fits g)

pub statement_goes : (n : ℕ) (from to : List Lexeme) → length from ≤ n → Goes Statement from to → Beyond (read.statement n from) to
unfolding read.statement
statement_goes zero from to fits g = omega arith
statement_goes (suc n) from to fits g = deeper n (statement_goes n) from to fits g
