-- A region is read at least to the end of what begins it.
use Rattle.std.proofs.Common.{◌≡◌, refl, ◌∙◌, sym, ℕ, ◌≤◌, ◌-◌, Bool, true, false, List, [], ◌∷◌, ◌++◌, length, Ok, arith}
use Rattle.dp_lex.specs.Token.{Lexeme}
use Rattle.dp_tree.specs.declared.raw.RawStmt.{RawStmt}
use Rattle.dp_tokens.specs.declared.symbol.Symbol.{Symbol}
use Rattle.dp_tokens.specs.declared.symbol.Symbol.TheVariants.{Name, Int, Print, While, For, If, Else, OpenBrace, CloseBrace}
use Rattle.dp_tokens.specs.Symbols.{symbol_at}
use Rattle.dp_parse.specs.Rules.{Part, Word, Of, Condition, Head, Statement, Exit, Inside, Loop}
use Rattle.dp_parse.specs.Rules as rule
use Rattle.dp_tokens.specs.Steps.{Parser, sees_symbol, many}
use Rattle.dp_parse.specs.steps.Heads as heads
use Rattle.dp_parse.specs.steps.Statements as statements
use Rattle.dp_parse.specs.steps.Regions as read
use Rattle.dp_parse.proofs.StepLemmas.{sees_other}
use Rattle.dp_parse.proofs.Lists.{many_turn}
use Rattle.dp_parse.proofs.Spans.{shorter}
use Rattle.dp_parse.proofs.StatementReads.{first_not, begins_not}
use Rattle.dp_parse.proofs.RegionSound.{inside_shorter}
use Rattle.dp_parse.proofs.RegionComplete.{inside_other, exit_not, reads_inside, reads_exit, reads_insides, reads_loop, region_while, region_for}
use Rattle.dp_parse.proofs.StuckRegions.{Begun, plainly, leaves, inside_stuck}
use Rattle.dp_parse.proofs.Going.{Goes, by, within, past, word_first, goes_whole}
use Rattle.dp_parse.proofs.Beyond.{Beyond, Shrinks, shrinks_if, begins_shorter, same_beyond, Reading, Inner, part_and, word_and, ends, many_shrinks, many_first}
use Rattle.dp_parse.proofs.BeyondHeads.{head}
use Rattle.dp_parse.proofs.BeyondCalls.{test}
use Rattle.dp_parse.proofs.BeyondStatements.{statement_goes}
use Rattle.dp_parse.proofs.BeyondBranches.{left, left_braced, branch_read, as_branch, choice_goes}

module _ (n : ℕ) where
  abbrev plain : Parser RawStmt
  plain = statements.statement n

  -- ---- statements

  other_goes : (s : Symbol) (from to : List Lexeme) → symbol_at from ≡ s → (s ≡ If → ⊥) → length from ≤ n → Goes Statement from to →
      Beyond (read.inside plain from) to
  other_goes s from to at other fits g = same_beyond to (inside_other plain from (λ k. other (sym at ∙ k))) (statement_goes n from to fits g)

  inside_goes : (from to : List Lexeme) → length from ≤ n → Goes Statement from to → Beyond (read.inside plain from) to
  inside_goes from to fits (by rule.declare g) = other_goes Int from to (word_first g) (λ e. cc e) fits (by rule.declare g)
  inside_goes from to fits (by rule.assign g) = other_goes Name from to (word_first g) (λ e. cc e) fits (by rule.assign g)
  inside_goes from to fits (by rule.store g) = other_goes Name from to (word_first g) (λ e. cc e) fits (by rule.store g)
  inside_goes from to fits (by rule.call g) = other_goes Name from to (word_first g) (λ e. cc e) fits (by rule.call g)
  inside_goes from to fits (by rule.print g) = other_goes Print from to (word_first g) (λ e. cc e) fits (by rule.print g)
  inside_goes from to fits (by rule.loop g) = other_goes While from to (word_first g) (λ e. cc e) fits (by rule.loop g)
  inside_goes from to fits (by rule.for_loop g) = other_goes For from to (word_first g) (λ e. cc e) fits (by rule.for_loop g)
  inside_goes from to fits (by rule.choice (within g)) = choice_goes n from to fits g

  exit_goes : (from to : List Lexeme) → length from ≤ n → Goes Exit from to → Beyond (read.inside plain from) to
  exit_goes from to fits (by rule.bare g) = as_branch n _ from to fits g (branch_read n _ (λ line cond. left n line cond))
  exit_goes from to fits (by rule.braced g) = as_branch n _ from to fits g (branch_read n _ (λ line cond. left_braced n line cond))

  begun_shorter : {from to : List Lexeme} → Begun from to → length to ≤ length from
  begun_shorter (plainly b) = begins_shorter b
  begun_shorter (leaves b) = begins_shorter b

  inside_shrinks : Shrinks (read.inside plain)
  inside_shrinks = shrinks_if (read.inside plain) (λ from to s is. let less = inside_shorter n from to s is in
      omega arith) (λ from to is. begun_shorter (inside_stuck n from to is))

  insides_first : {from to : List Lexeme} → Goes Inside from to → symbol_at from ≡ Else → ⊥
  insides_first (by rule.statement_inside (within g)) at = first_not g Else refl at
  insides_first (by rule.statement_inside (past d g)) at = begins_not d.1 Else refl at
  insides_first (by rule.exit_inside (within g)) at = exit_not g Else (λ e. cc e) at
  insides_first (by rule.exit_inside (past d g)) at = exit_not (goes_whole Exit refl d) Else (λ e. cc) at

  abbrev all : ℕ → List RawStmt → Parser (List RawStmt)
  all k found = many (sees_symbol CloseBrace) (read.inside plain) k found

  first_goes : (k : ℕ) (found : List RawStmt) (from to : List Lexeme) → length from ≤ k → (symbol_at from ≡ CloseBrace → ⊥) →
      Beyond (read.inside plain from) to → Beyond (all k found from) to
  first_goes k found from to enough other h =
      many_first (read.inside plain) inside_shrinks (sees_symbol CloseBrace) k found from to enough (sees_other CloseBrace from other) h

  turn : (k : ℕ) (found : List RawStmt) (from middle : List Lexeme) (s : RawStmt) → length from ≤ k → (symbol_at from ≡ CloseBrace → ⊥) →
      read.inside plain from ≡ Ok (s, middle) → all k found from ≡ all (k - 1) (found ++ s ∷ []) middle
  turn k found from middle s enough other h =
      let less = inside_shorter n from middle s h in
      many_turn (read.inside plain) (sees_symbol CloseBrace) k found from middle s (sees_other CloseBrace from other) h less enough

  insides_go : {from to : List Lexeme} → Goes Inside from to → (k : ℕ) (found : List RawStmt) → length from ≤ n → length from ≤ k → Beyond (all k found from) to
  insides_go (by {from} {to} rule.statement_inside (within g)) k found fits enough =
      first_goes k found from to enough (first_not g CloseBrace refl) (inside_goes from to fits g)
  insides_go (by {from} {to} rule.statement_inside (past {middle} d (within g))) k found fits enough =
      let less = shorter Statement _ _ refl d in
      same_beyond to (turn k found from middle d.0 enough (begins_not d.1 CloseBrace refl) (reads_inside d.1 n fits (insides_first g)))
      (insides_go g (k - 1) (found ++ d.0 ∷ []) (omega arith) (omega arith))
  insides_go (by {from} {to} rule.exit_inside (within g)) k found fits enough =
      first_goes k found from to enough (exit_not g CloseBrace (λ e. cc e)) (exit_goes from to fits g)
  insides_go (by {from} {to} rule.exit_inside (past {middle} d (within g))) k found fits enough =
      let less = shorter Exit _ _ refl d in
      same_beyond to (turn k found from middle d.0 enough (exit_not (goes_whole Exit refl d) CloseBrace (λ e. cc)) (reads_exit plain d.1))
      (insides_go g (k - 1) (found ++ d.0 ∷ []) (omega arith) (omega arith))

  insides : Inner (λ ts. all (length ts) [] ts) Inside n (Word CloseBrace ∷ [])
  insides = record {
    shrinks = λ from. many_shrinks (read.inside plain) inside_shrinks (sees_symbol CloseBrace) (length from) [] from;
    goes = λ from to fits g. insides_go g (length from) [] fits (omega arith);
    reads = λ from middle to fits d g. (d.0, reads_insides n d.1 fits (word_first g) [] (length from) (omega arith));
  }

  body_read : Reading (read.body plain) n (Word OpenBrace ∷ Of Inside ∷ Word CloseBrace ∷ [])
  unfolding read.body
  body_read = word_and OpenBrace n _ _ (λ _. part_and _ Inside n _ insides _ (λ found. word_and CloseBrace n [] _ (λ _. ends)))

  body_goes : (from to : List Lexeme) → length from ≤ n → Goes Loop from to → Beyond (read.body plain from) to
  body_goes from to fits (by rule.body g) = body_read.goes from to fits g

  pub body : (parts : List Part) → Inner (read.body plain) Loop n parts
  body parts = record {
    shrinks = body_read.shrinks;
    goes = body_goes;
    reads = λ from middle to fits d g. (d.0, reads_loop n d.1 fits);
  }

  repeated_read : Reading (read.repeated plain) n (Word While ∷ Of Condition ∷ Of Loop ∷ [])
  unfolding read.repeated
  repeated_read = word_and While n _ _ (λ word_. part_and statements.condition Condition n _ (test n _) _
      (λ cond. part_and _ Loop n _ (body _) _ (λ found. ends)))

  counted_read : Reading (read.counted plain) n (Word For ∷ Of Head ∷ Of Loop ∷ [])
  unfolding read.counted
  counted_read = word_and For n _ _ (λ word_. part_and heads.head Head n _ (head n _) _ (λ head. part_and _ Loop n _ (body _) _ (λ found. ends)))

  region_by : (b : Bool) → Shrinks (read.region_by plain b)
  region_by true from = counted_read.shrinks from
  region_by false from = repeated_read.shrinks from

  region_shrinks : Shrinks (read.region plain)
  unfolding read.region
  region_shrinks from = region_by (sees_symbol For from) from

  pub while_read : Reading (read.region plain) n (Word While ∷ Of Condition ∷ Of Loop ∷ [])
  while_read = record {
    shrinks = region_shrinks;
    goes = λ from to fits g. same_beyond to (region_while n from
        (word_first g)) (repeated_read.goes from to fits g);
  }

  pub for_read : Reading (read.region plain) n (Word For ∷ Of Head ∷ Of Loop ∷ [])
  for_read = record { shrinks = region_shrinks; goes = λ from to fits g. same_beyond to (region_for n from (word_first g)) (counted_read.goes from to fits g) }
