-- Where a region is stuck, the tokens before that place begin one.
use Rattle.std.proofs.Common.{◌≡◌, refl, ap, ◌∙◌, ℕ, Bool, true, false, List, [], ◌∷◌, length, ◌⊎◌, inl, inr, Ok, Err}
use Rattle.dp_lex.specs.Token.{Lexeme}
use Rattle.dp_tree.specs.declared.raw.RawExpr.{RawExpr}
use Rattle.dp_tree.specs.declared.raw.RawStmt.{RawStmt}
use Rattle.dp_tree.specs.declared.raw.RawStmt.TheVariants as tree
use Rattle.dp_tokens.specs.declared.symbol.Symbol.TheVariants.{While, For, If, Else, Break, OpenBrace, CloseBrace, Semicolon}
use Rattle.dp_tokens.specs.Symbols.{Is}
use Rattle.dp_parse.specs.Statements.{DerivesCondition}
use Rattle.dp_parse.specs.Rules.{Part, Word, Of, Condition, Head, Statement, Choice, Block, Exit, Inside, Loop}
use Rattle.dp_parse.specs.Begins.{Begins, BeginsParts, by, within, token, past}
use Rattle.dp_parse.specs.Rules as rule
use Rattle.dp_tokens.specs.Steps.{Outcome, Parser, ◌>>=◌, pure, parse_then, expect, sees_symbol, many}
use Rattle.dp_parse.specs.steps.Statements as statements
use Rattle.dp_parse.specs.steps.Regions as read
use Rattle.dp_parse.proofs.StepLemmas.{took}
use Rattle.dp_parse.proofs.StatementForms.{sound_condition}
use Rattle.dp_parse.proofs.StatementSound.{sound_statement}
use Rattle.dp_parse.proofs.RegionSound.{Inside as Insides, plain, leaving, sound_inside, many_inside, sound_body}
use Rattle.dp_parse.proofs.Stuck.{Fails, Reader, seq, seq_or, FailsOr, done, word, reader, cases, token_at, here, expect_stuck, many_stuck}
use Rattle.dp_parse.proofs.StuckHeads.{head}
use Rattle.dp_parse.proofs.StuckStatements.{condition_stuck, test, statement_stuck, if_stuck, block, otherwise_fails, mapped_or}

-- ---- exits

bare_fails : (line : ℕ) (cond : RawExpr) → Fails (read.bare line cond) (Word Break ∷ Word Semicolon ∷ [])
unfolding read.bare
bare_fails line cond from to h = seq (word Break) _ (λ _. seq (word Semicolon) _ (λ _. done)) from to h

module _ {B : Type 0} (line : ℕ) (cond : RawExpr) (f : RawStmt → Parser B) (parts : List Part) (fails : (s : RawStmt) → Fails (f s) parts) where
  end_at : (from to : List Lexeme) (o : Outcome Lexeme) → expect Semicolon from ≡ o → parse_then (parse_then o (λ _. pure (tree.Break line cond))) f ≡ Err to →
      BeginsParts (Word Semicolon ∷ parts) from to
  end_at from to (Ok x) is e = let t = took Semicolon from x.0 x.1 is in token_at t.splits t.is (fails (tree.Break line cond) x.1 to e)
  end_at from to (Err left) is e = let same : left ≡ to = cc e in here (expect_stuck Semicolon from to (is ∙ ap Err same))

  bare_at : (from to : List Lexeme) (o : Outcome Lexeme) → expect Break from ≡ o →
      parse_then (parse_then o (λ _. expect Semicolon >>= (λ _. pure (tree.Break line cond)))) f ≡ Err to →
      BeginsParts (Word Break ∷ Word Semicolon ∷ parts) from to
  bare_at from to (Ok x) is e = let t = took Break from x.0 x.1 is in token_at t.splits t.is (end_at x.1 to (expect Semicolon x.1) refl e)
  bare_at from to (Err left) is e = let same : left ≡ to = cc e in here (expect_stuck Break from to (is ∙ ap Err same))

  -- an exit's word and semicolon before others
  bare_then : Fails (read.bare line cond >>= f) (Word Break ∷ Word Semicolon ∷ parts)
  unfolding read.bare
  bare_then from to e = bare_at from to (expect Break from) refl e

braced_fails : (line : ℕ) (cond : RawExpr) → Fails (read.braced line cond) (Word OpenBrace ∷ Word Break ∷ Word Semicolon ∷ Word CloseBrace ∷ [])
unfolding read.braced
braced_fails line cond from to h =
    seq (word OpenBrace) _ (λ _. bare_then line cond _ (Word CloseBrace ∷ []) (λ s. seq (word CloseBrace) _ (λ _. done))) from to h

-- ---- statements of a region's body

-- what begins one
pub data Begun (from to : List Lexeme) : Type 0 where
  plainly : Begins Statement from to → Begun from to
  leaves : Begins Exit from to → Begun from to

module _ (n : ℕ) where
  branches_fails : (line : ℕ) (cond : RawExpr) → FailsOr (read.branches (statements.statement n) line cond) (Of Block ∷ Word Else ∷ Of Block ∷ [])
      (Of Block ∷ Word Else ∷ Of Choice ∷ [])
  unfolding read.branches
  branches_fails line cond from to h =
      seq_or (block (statements.statement n) (sound_statement n) (statement_stuck n) (if_stuck n)) _ (λ then_part. mapped_or (statements.statement n)
      (sound_statement n) (statement_stuck n) (if_stuck n)
      (otherwise_fails (statements.statement n) (sound_statement n) (statement_stuck n) (if_stuck n)) _) from to h

  branched : (w : Lexeme) (from middle to : List Lexeme) (cond : RawExpr) → Is If w → DerivesCondition from middle cond →
      BeginsParts (Of Block ∷ Word Else ∷ Of Block ∷ []) middle to ⊎ BeginsParts (Of Block ∷ Word Else ∷ Of Choice ∷ []) middle to → Begins Choice (w ∷ from) to
  branched w from middle to cond is d (inl b) = by rule.otherwise (token is (past (cond, d) b))
  branched w from middle to cond is d (inr b) = by rule.else_if (token is (past (cond, d) b))

  tested_at : (w : Lexeme) (from middle to : List Lexeme) (cond : RawExpr) → Is If w → DerivesCondition from middle cond → (a b : Bool) →
      read.tested_by (statements.statement n) w.line cond a b middle ≡ Err to → Begun (w ∷ from) to
  tested_at w from middle to cond is d true b h = leaves (by rule.bare (token is (past (cond, d) (bare_fails w.line cond middle to h))))
  tested_at w from middle to cond is d false true h = leaves (by rule.braced (token is (past (cond, d) (braced_fails w.line cond middle to h))))
  tested_at w from middle to cond is d false false h =
      plainly (by rule.choice (within (branched w from middle to cond is d (branches_fails w.line cond middle to h))))

  tested_stuck : (w : Lexeme) (from middle to : List Lexeme) (cond : RawExpr) → Is If w → DerivesCondition from middle cond →
      read.tested (statements.statement n) w.line cond middle ≡ Err to → Begun (w ∷ from) to
  unfolding read.tested
  tested_stuck w from middle to cond is d h = tested_at w from middle to cond is d (sees_symbol Break middle) (read.leads_out middle) h

  abbrev If_Begun : Lexeme → List Lexeme → List Lexeme → Type 0
  If_Begun w from to = Begun (w ∷ from) to

  behind_if : (w : Lexeme) (from to : List Lexeme) → Is If w → (statements.condition >>= read.tested (statements.statement n) w.line) from ≡ Err to
      → Begun (w ∷ from) to
  behind_if w from to is h =
      cases statements.condition (read.tested (statements.statement n) w.line) (If_Begun w)
      (λ from to e. plainly (by rule.choice (within (by rule.alone (token is (within (condition_stuck from to e)))))))
      (λ from middle to cond e f. tested_stuck w from middle to cond is (sound_condition from middle cond e) f) from to h

  branch_stuck : (from to : List Lexeme) → read.branch (statements.statement n) from ≡ Err to → Begun from to
  unfolding read.branch
  branch_stuck from to h =
      cases (expect If) (λ word. statements.condition >>= read.tested (statements.statement n) word.line) Begun
      (λ from to e. plainly (by rule.choice (within (by rule.alone ((word If).stuck _ from to e)))))
      (λ from middle to w e f. let t = took If from w middle e in rw t.splits (behind_if w middle to t.is f)) from to h

  inside_at : (b : Bool) (from to : List Lexeme) → read.inside_by (statements.statement n) b from ≡ Err to → Begun from to
  inside_at true from to h = branch_stuck from to h
  inside_at false from to h = plainly (statement_stuck n from to h)

  pub inside_stuck : (from to : List Lexeme) → read.inside (statements.statement n) from ≡ Err to → Begun from to
  unfolding read.inside
  inside_stuck from to h = inside_at (sees_symbol If from) from to h

  -- ---- bodies

  abbrev one : Parser RawStmt
  one = read.inside (statements.statement n)

  begun : {from to : List Lexeme} → Begun from to → Begins Inside from to
  begun (plainly b) = by rule.statement_inside (within b)
  begun (leaves b) = by rule.exit_inside (within b)

  further : {from middle to : List Lexeme} {s : RawStmt} → Insides from middle s → Begins Inside middle to → Begins Inside from to
  further (plain d) b = by rule.statement_inside (past (_, d) (within b))
  further (leaving d) b = by rule.exit_inside (past (_, d) (within b))

  insides : Reader (λ ts. many (sees_symbol CloseBrace) one (length ts) [] ts) (Of Inside)
  insides = reader Inside (λ ts. many (sees_symbol CloseBrace) one (length ts) [] ts)
      (λ from to a e. let m = many_inside (statements.statement n) (sound_statement n) (length from) from to [] a e in (m.0, m.2))
      (λ from to e. many_stuck Inside one (λ from to e. begun (inside_stuck from to e)) (sees_symbol CloseBrace)
      (λ from middle to s e b. further (sound_inside (statements.statement n) (sound_statement n) from middle s e) b) (length from) [] from to e)

  body_stuck : (from to : List Lexeme) → read.body (statements.statement n) from ≡ Err to → Begins Loop from to
  unfolding read.body
  body_stuck from to h = by rule.body (seq (word OpenBrace) _ (λ _. seq insides _ (λ body. seq (word CloseBrace) _ (λ _. done))) from to h)

  pub body : Reader (read.body (statements.statement n)) (Of Loop)
  body = reader Loop (read.body (statements.statement n)) (λ from to a e. (a, sound_body (statements.statement n) (sound_statement n) from to a e)) body_stuck

  repeated_fails : (parts : List Part) → Fails (read.repeated (statements.statement n)) (Word While ∷ Of Condition ∷ Of Loop ∷ parts)
  unfolding read.repeated
  repeated_fails parts from to h = seq (word While) _ (λ word_. seq test _ (λ cond. seq body _ (λ found. done))) from to h

  counted_fails : (parts : List Part) → Fails (read.counted (statements.statement n)) (Word For ∷ Of Head ∷ Of Loop ∷ parts)
  unfolding read.counted
  counted_fails parts from to h = seq (word For) _ (λ word_. seq head _ (λ head. seq body _ (λ found. done))) from to h

  region_at : (parts : List Part) (b : Bool) (from to : List Lexeme) → read.region_by (statements.statement n) b from ≡ Err to →
      BeginsParts (Word While ∷ Of Condition ∷ Of Loop ∷ parts) from to ⊎ BeginsParts (Word For ∷ Of Head ∷ Of Loop ∷ parts) from to
  region_at parts true from to h = inr (counted_fails parts from to h)
  region_at parts false from to h = inl (repeated_fails parts from to h)

  pub region_fails : (parts : List Part) → FailsOr (read.region (statements.statement n)) (Word While ∷ Of Condition ∷ Of Loop ∷ parts)
      (Word For ∷ Of Head ∷ Of Loop ∷ parts)
  unfolding read.region
  region_fails parts from to h = region_at parts (sees_symbol For from) from to h
