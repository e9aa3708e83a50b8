-- What the descent reads as a statement, the grammar derives.
use Rattle.std.proofs.Common.{◌≡◌, refl, ap, ◌∙◌, sym, ℕ, zero, suc, Bool, true, false, List, [], ◌∷◌, ◌++◌, length, Ok}
use Rattle.dp_lex.specs.Token.{Lexeme}
use Rattle.dp_tree.specs.declared.raw.RawExpr.{RawExpr}
use Rattle.dp_tree.specs.declared.raw.RawStmt.{RawStmt}
use Rattle.dp_tree.specs.declared.raw.RawStmt.TheVariants as tree
use Rattle.dp_tokens.specs.declared.symbol.Symbol.{Symbol}
use Rattle.dp_tokens.specs.declared.symbol.Symbol.TheVariants.{Name, Int, Print, While, For, If, Else, OpenBrace, CloseBrace}
use Rattle.dp_tokens.specs.Symbols.{symbol_at, Is}
use Rattle.dp_parse.specs.Statements.{DerivesCondition, condition, DerivesStatement, loop, for_loop, choice, DerivesChoice, alone, otherwise, else_if}
use Rattle.dp_parse.specs.Statements.{DerivesBlock, block, DerivesStatements, declare, assign, store, call, print}
use Rattle.dp_parse.specs.Statements as statements
use Rattle.dp_tokens.specs.Steps.{Parser, ◌>>=◌, pure, expect, sees_symbol, many}
use Rattle.dp_parse.specs.declared.head.Header.{Header}
use Rattle.dp_parse.specs.steps.Heads as heads
use Rattle.dp_parse.specs.steps.Statements as read
use Rattle.dp_parse.proofs.StepLemmas.{Sound, then_of, same_pair, takes, Ate, passed, stayed, ate, closed, moved, saw}
use Rattle.dp_parse.proofs.Lists.{many_sound}
use Rattle.dp_parse.proofs.StatementForms.{sound_condition, sound_declaration, sound_named, sound_print}
use Rattle.dp_parse.proofs.HeadSound.{read_head}

module _ (statement : Parser RawStmt) (sound : Sound statement DerivesStatement) where
  -- statements up to a brace, after those that were found
  pub many_statements : (n : ℕ) (from to : List Lexeme) (found out : List RawStmt) → many (sees_symbol CloseBrace) statement n found from ≡ Ok (out, to) →
      (body : List RawStmt) × (out ≡ found ++ body) × DerivesStatements from to body
  many_statements = many_sound statement DerivesStatements (sees_symbol CloseBrace) (λ to. statements.none) (λ from middle to s rest e ds. statements.more
      (sound from middle s e) ds)

  pub sound_block : Sound (read.block statement) DerivesBlock
  unfolding read.block
  sound_block from to body h =
      let o = takes OpenBrace from (λ _. (λ ts. many (sees_symbol CloseBrace) statement (length ts) [] ts) >>=
      (λ body. expect CloseBrace >>= (λ _. pure body))) body to h in
      let c = closed (λ ts. many (sees_symbol CloseBrace) statement (length ts) [] ts) CloseBrace (λ x. x) body o.middle to o.second in
      let m = many_statements (length o.middle) o.middle (c.closing ∷ to) [] c.value c.first in
      moved DerivesBlock o.splits refl (c.made ∙ m.1) (block o.is m.2 c.is)

  -- what follows an `if` and its block
  pub data Otherwise (from to : List Lexeme) (part : List RawStmt) : Type 0 where
    nothing : from ≡ to → part ≡ [] → Otherwise from to part
    a_block : (other : Lexeme) (inside : List Lexeme) → Is Else other → from ≡ other ∷ inside → DerivesBlock inside to part → Otherwise from to part
    a_choice : (other : Lexeme) (inside : List Lexeme) (s : RawStmt) → Is Else other → from ≡ other ∷ inside → symbol_at inside ≡ If →
        DerivesStatement inside to s → part ≡ s ∷ [] → Otherwise from to part

  else_at : (other : Lexeme) (from inside to : List Lexeme) (part : List RawStmt) → Is Else other → from ≡ other ∷ inside → (b : Bool) →
      sees_symbol If inside ≡ b → read.else_by statement b inside ≡ Ok (part, to) → Otherwise from to part
  else_at other from inside to part is splits true seen h =
      let o = then_of (statement inside) (λ s. pure (s ∷ [])) part to h in
      let parts = same_pair {a = o.value ∷ []} {b = part} {x = o.middle} {y = to} o.second in
      a_choice other inside o.value is splits (saw If inside seen) (moved DerivesStatement refl (sym parts.1) refl
      (sound inside o.middle o.value o.first)) (sym parts.0)
  else_at other from inside to part is splits false seen h = a_block other inside is splits (sound_block inside to part h)

  otherwise_ate : (from to : List Lexeme) (part : List RawStmt) → Ate Else (read.otherwise_by statement) from part to → Otherwise from to part
  otherwise_ate from to part (passed t inside is splits e) = else_at t from inside to part is splits (sees_symbol If inside) refl e
  otherwise_ate from to part (stayed other e) = let parts = same_pair {a = []} {b = part} {x = from} {y = to} e in nothing parts.1 (sym parts.0)

  pub read_otherwise : (from to : List Lexeme) (part : List RawStmt) → read.otherwise statement from ≡ Ok (part, to) → Otherwise from to part
  unfolding read.otherwise
  read_otherwise from to part h = otherwise_ate from to part (ate Else (read.otherwise_by statement) part to from (λ k. cc) h)

-- a statement that begins with `if` is a choice
choice_of : {from to : List Lexeme} {s : RawStmt} → DerivesStatement from to s → symbol_at from ≡ If → DerivesChoice from to s
unfolding symbol_at
choice_of (declare i n q d e) at = absurd (cc)
choice_of (assign n q d e) at = absurd (cc)
choice_of (store n o d c q f e) at = absurd (cc)
choice_of (call n o d c e) at = absurd (cc)
choice_of (print w d e) at = absurd (cc)
choice_of (loop w d b) at = absurd (cc)
choice_of (for_loop w d b) at = absurd (cc)
choice_of (choice d) at = d

module _ (statement : Parser RawStmt) (sound : Sound statement DerivesStatement) where
  pub chosen : (word : Lexeme) (from middle after to : List Lexeme) (cond : RawExpr) (body part : List RawStmt) → Is If word →
      DerivesCondition from middle cond → DerivesBlock middle after body →
      Otherwise statement sound after to part → DerivesChoice (word ∷ from) to (tree.If word.line cond body part)
  chosen word from middle last to cond body part is test d (nothing same none) =
      moved DerivesChoice refl (sym same) (ap (tree.If word.line cond body) none) (alone is test d)
  chosen word from middle last to cond body part is test d (a_block other inside is_else splits e) =
      otherwise is test (moved DerivesBlock refl (sym splits) refl d) is_else e
  chosen word from middle last to cond body part is test d (a_choice other inside s is_else splits at e only) =
      moved DerivesChoice refl refl (ap (tree.If word.line cond body) only) (else_if is test (moved DerivesBlock refl (sym splits) refl d)
      is_else (choice_of e at))

  pub sound_choice : Sound (read.choice statement) DerivesChoice
  unfolding read.choice
  sound_choice from to s h =
      let o = takes If from
      (λ word. read.condition >>=
      (λ cond. read.block statement >>= (λ then_part. read.otherwise statement >>= (λ else_part. pure (tree.If word.line cond then_part else_part))))) s to h in
      let p = then_of (read.condition o.middle)
      (λ cond. read.block statement >>= (λ then_part. read.otherwise statement >>= (λ else_part. pure (tree.If o.value.line cond then_part else_part)))) s to
      o.second in
      let q = then_of (read.block statement p.middle)
      (λ then_part. read.otherwise statement >>= (λ else_part. pure (tree.If o.value.line p.value then_part else_part))) s to p.second in
      let u = then_of (read.otherwise statement q.middle) (λ else_part. pure (tree.If o.value.line p.value q.value else_part)) s to q.second in
      let parts = same_pair {a = tree.If o.value.line p.value q.value u.value} {b = s} {x = u.middle} {y = to} u.second in
      moved DerivesChoice o.splits (sym parts.1) (sym parts.0)
      (chosen o.value o.middle p.middle q.middle u.middle p.value q.value u.value o.is (sound_condition o.middle p.middle p.value p.first)
      (sound_block statement sound p.middle q.middle q.value q.first) (read_otherwise statement sound q.middle u.middle u.value u.first))

  sound_loop : (from to : List Lexeme) (s : RawStmt) → read.repeated statement from ≡ Ok (s, to) → DerivesStatement from to s
  unfolding read.repeated
  sound_loop from to s h =
      let o = takes While from (λ word. read.condition >>= (λ cond. read.block statement >>= (λ body. pure (tree.While word.line false cond body)))) s to h in
      let p = then_of (read.condition o.middle) (λ cond. read.block statement >>= (λ body. pure (tree.While o.value.line false cond body))) s to o.second in
      let q = then_of (read.block statement p.middle) (λ body. pure (tree.While o.value.line false p.value body)) s to p.second in
      let parts = same_pair {a = tree.While o.value.line false p.value q.value} {b = s} {x = q.middle} {y = to} q.second in
      moved DerivesStatement o.splits (sym parts.1) (sym parts.0) (loop o.is (sound_condition o.middle p.middle p.value p.first)
      (sound_block statement sound p.middle q.middle q.value q.first))

  abbrev for_of : ℕ → Header → List RawStmt → RawStmt
  for_of line h body = tree.For line false h.first h.cond h.step body

  sound_for : (from to : List Lexeme) (s : RawStmt) → read.counted statement from ≡ Ok (s, to) → DerivesStatement from to s
  unfolding read.counted
  sound_for from to s h =
      let o = takes For from (λ word. heads.head >>= (λ head. read.block statement >>= (λ body. pure (for_of word.line head body)))) s to h in
      let p = then_of (heads.head o.middle) (λ head. read.block statement >>= (λ body. pure (for_of o.value.line head body))) s to o.second in
      let k = read_head o.middle p.middle p.value p.first in
      let q = then_of (read.block statement p.middle) (λ body. pure (for_of o.value.line p.value body)) s to p.second in
      let parts = same_pair {a = for_of o.value.line p.value q.value} {b = s} {x = q.middle} {y = to} q.second in
      moved DerivesStatement o.splits (sym parts.1) (sym parts.0 ∙ ap (λ (head : Header). for_of o.value.line head q.value) k.made)
      (for_loop o.is k.derives (sound_block statement sound p.middle q.middle q.value q.first))

  statement_at : (k : Symbol) (from to : List Lexeme) (s : RawStmt) → read.statement_by statement k from ≡ Ok (s, to) → DerivesStatement from to s
  statement_at Int from to s h = sound_declaration from to s h
  statement_at Name from to s h = sound_named from to s h
  statement_at Print from to s h = sound_print from to s h
  statement_at While from to s h = sound_loop from to s h
  statement_at For from to s h = sound_for from to s h
  statement_at _ from to s h = choice (sound_choice from to s h)

pub sound_statement : (n : ℕ) → Sound (read.statement n) DerivesStatement
unfolding read.statement
sound_statement zero from to s h = absurd (cc)
sound_statement (suc n) from to s h = statement_at (read.statement n) (sound_statement n) (symbol_at from) from to s h
