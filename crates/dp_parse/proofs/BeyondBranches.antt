-- An `if` in a region's body is read at least to the end of what begins it.
use Rattle.std.proofs.Common.{◌≡◌, refl, ap, ◌∙◌, sym, ℕ, ◌≤◌, Bool, true, false, ◌&&◌, List, [], ◌∷◌, length, arith}
use Rattle.dp_lex.specs.Token.{Lexeme}
use Rattle.dp_tree.specs.declared.raw.RawExpr.{RawExpr}
use Rattle.dp_tree.specs.declared.raw.RawStmt.{RawStmt}
use Rattle.dp_tree.specs.declared.raw.RawStmt.TheVariants as tree
use Rattle.dp_tokens.specs.declared.symbol.Symbol.TheVariants.{If, Break, OpenBrace, CloseBrace, Semicolon}
use Rattle.dp_tokens.specs.Symbols.{symbol_at, Is}
use Rattle.dp_parse.specs.Rules.{Part, Word, Of, Condition, Choice, Block, Statements}
use Rattle.dp_parse.specs.Rules as rule
use Rattle.dp_tokens.specs.Steps.{Parser, ◌>>=◌, pure, expect, sees_symbol, rest}
use Rattle.dp_parse.specs.steps.Statements as statements
use Rattle.dp_parse.specs.steps.Regions as read
use Rattle.dp_parse.proofs.StepLemmas.{is_same, sees_is, sees_other, unlike}
use Rattle.dp_parse.proofs.StatementReads.{statements_not}
use Rattle.dp_parse.proofs.RegionComplete.{tested_as, stays_in, inside_if}
use Rattle.dp_parse.proofs.Going.{Goes, GoesParts, by, last, token, within, past, word_first}
use Rattle.dp_parse.proofs.Stuck.{grouped}
use Rattle.dp_parse.proofs.Beyond.{Beyond, Shrinks, same_beyond, Reading, part_and, word_and, finished, ends, same_reading, mapped_and}
use Rattle.dp_parse.proofs.BeyondCalls.{test}
use Rattle.dp_parse.proofs.BeyondStatements.{statements_first, statement_goes, block, otherwise_shrinks, else_block, else_choice}

-- ---- exits

bare_read : (n line : ℕ) (cond : RawExpr) → Reading (read.bare line cond) n (Word Break ∷ Word Semicolon ∷ [])
unfolding read.bare
bare_read n line cond = word_and Break n _ _ (λ _. word_and Semicolon n [] _ (λ _. ends))

module _ (n line : ℕ) (cond : RawExpr) where
  abbrev leave : RawStmt
  leave = tree.Break line cond

  abbrev close : RawStmt → Parser RawStmt
  close s = expect CloseBrace >>= (λ _. pure s)

  after_end : Reading ((expect Semicolon >>= (λ _. pure leave)) >>= close) n (Word Semicolon ∷ Word CloseBrace ∷ [])
  after_end = same_reading (grouped (λ _. pure leave) close (expect Semicolon)) (word_and Semicolon n _ _ (λ _. word_and CloseBrace n [] _ (λ _. ends)))

  bare_closed : Reading (read.bare line cond >>= close) n (Word Break ∷ Word Semicolon ∷ Word CloseBrace ∷ [])
  unfolding read.bare
  bare_closed = same_reading (grouped (λ _. expect Semicolon >>= (λ _. pure leave)) close (expect Break)) (word_and Break n _ _ (λ _. after_end))

  braced_read : Reading (read.braced line cond) n (Word OpenBrace ∷ Word Break ∷ Word Semicolon ∷ Word CloseBrace ∷ [])
  unfolding read.braced
  braced_read = word_and OpenBrace n _ _ (λ _. bare_closed)

-- ---- an `if` in a region's body

module _ (n : ℕ) where
  abbrev plain : Parser RawStmt
  plain = statements.statement n

  branches_read : (line : ℕ) (cond : RawExpr) (parts : List Part) → Reading (statements.otherwise plain) n parts →
      Reading (read.branches plain line cond) n (Of Block ∷ parts)
  unfolding read.branches
  branches_read line cond parts r = part_and _ Block n _ (block n (statement_goes n) _) _ (λ then_part. mapped_and _ n _ r _)

  alone_read : (line : ℕ) (cond : RawExpr) → Reading (read.branches plain line cond) n (Of Block ∷ [])
  alone_read line cond = branches_read line cond [] (finished (statements.otherwise plain) n (otherwise_shrinks n (statement_goes n)))

  tested_by : (line : ℕ) (cond : RawExpr) (a b : Bool) → Shrinks (read.tested_by plain line cond a b)
  tested_by line cond true b from = (bare_read 0 line cond).shrinks from
  tested_by line cond false true from = (braced_read 0 line cond).shrinks from
  tested_by line cond false false from = (alone_read line cond).shrinks from

  tested_shrinks : (line : ℕ) (cond : RawExpr) → Shrinks (read.tested plain line cond)
  unfolding read.tested
  tested_shrinks line cond from = tested_by line cond (sees_symbol Break from) (read.leads_out from) from

  not_bare : (t : Lexeme) (to : List Lexeme) → Is OpenBrace t → sees_symbol Break (t ∷ to) ≡ false
  not_bare t to o = sees_other Break (t ∷ to) (unlike t to OpenBrace Break o (λ e. cc e))

  leads_as : (t : Lexeme) (to : List Lexeme) → Is OpenBrace t → (b : Bool) → sees_symbol Break to ≡ b → read.leads_out (t ∷ to) ≡ b
  unfolding read.leads_out rest
  leads_as t to o b seen = ap (λ (c : Bool). c && sees_symbol Break to) (sees_is OpenBrace t to o) ∙ seen

  -- a brace alone is read both ways
  brace_by : (line : ℕ) (cond : RawExpr) (t : Lexeme) (to : List Lexeme) → length (t ∷ to) ≤ n → Is OpenBrace t → (b : Bool) → read.leads_out (t ∷ to) ≡ b →
      Beyond (read.tested plain line cond (t ∷ to)) to
  brace_by line cond t to fits o true seen =
      same_beyond to (tested_as plain line cond (t ∷ to) false true (not_bare t to o) seen) ((braced_read (length (t ∷ to)) line cond).goes (t ∷ to) to
      (omega arith) (last o))
  brace_by line cond t to fits o false seen =
      same_beyond to (tested_as plain line cond (t ∷ to) false false (not_bare t to o) seen)
      ((alone_read line cond).goes (t ∷ to) to fits (within (by rule.block (last o))))

  brace : (line : ℕ) (cond : RawExpr) (t : Lexeme) (to : List Lexeme) → length (t ∷ to) ≤ n → Is OpenBrace t → Beyond (read.tested plain line cond (t ∷ to)) to
  brace line cond t to fits o = brace_by line cond t to fits o (read.leads_out (t ∷ to)) refl

  no_break_next : (from to : List Lexeme) → GoesParts (Of Statements ∷ Word CloseBrace ∷ []) from to → symbol_at from ≡ Break → ⊥
  no_break_next from to (within g) at = statements_first g Break refl at
  no_break_next from to (past {middle} d g) at = statements_not d.1 Break refl (λ k. let clash : CloseBrace ≡ Break = sym (word_first g) ∙ k in cc clash) at

  module _ (line : ℕ) (cond : RawExpr) where
    branched : (parts : List Part) → Reading (statements.otherwise plain) n parts → (from to : List Lexeme) → length from ≤ n →
        GoesParts (Of Block ∷ parts) from to → Beyond (read.tested plain line cond from) to
    branched parts r from to fits (within (by rule.block (last {t} o))) = brace line cond t to fits o
    branched parts r from to fits (within (by rule.block (token {t} {from = middle} o g))) =
        same_beyond to (tested_as plain line cond (t ∷ middle) false false (not_bare t middle o)
        (leads_as t middle o false (sees_other Break middle (no_break_next middle to g))))
        ((branches_read line cond parts r).goes (t ∷ middle) to fits (within (by rule.block (token o g))))
    branched parts r from to fits (past d g) =
        let k = stays_in d.1 in
        same_beyond to (tested_as plain line cond from false false k.0 k.1) ((branches_read line cond parts r).goes from to fits (past d g))

    pub left : (from to : List Lexeme) → length from ≤ n → GoesParts (Word Break ∷ Word Semicolon ∷ []) from to → Beyond (read.tested plain line cond from) to
    unfolding sees_symbol
    left from to fits g =
        same_beyond to (tested_as plain line cond from true (read.leads_out from) (is_same (symbol_at from) Break (word_first g)) refl)
        ((bare_read n line cond).goes from to fits g)

    pub left_braced : (from to : List Lexeme) → length from ≤ n → GoesParts (Word OpenBrace ∷ Word Break ∷ Word Semicolon ∷ Word CloseBrace ∷ []) from to →
        Beyond (read.tested plain line cond from) to
    unfolding sees_symbol
    left_braced from to fits (last {t} o) = brace line cond t to fits o
    left_braced from to fits (token {t} {from = middle} o g) =
        same_beyond to (tested_as plain line cond (t ∷ middle) false true (not_bare t middle o)
        (leads_as t middle o true (is_same (symbol_at middle) Break (word_first g))))
        ((braced_read n line cond).goes (t ∷ middle) to fits (token o g))

  pub branch_read : (parts : List Part) → ((line : ℕ) (cond : RawExpr) (from to : List Lexeme) → length from ≤ n → GoesParts parts from to →
      Beyond (read.tested plain line cond from) to) →
      Reading (read.branch plain) n (Word If ∷ Of Condition ∷ parts)
  unfolding read.branch
  branch_read parts goes =
      word_and If n _ _ (λ word_. part_and statements.condition Condition n _ (test n _) _
      (λ cond. record { shrinks = tested_shrinks word_.line cond; goes = goes word_.line cond }))

  pub as_branch : (parts : List Part) (from to : List Lexeme) → length from ≤ n → GoesParts (Word If ∷ Of Condition ∷ parts) from to →
      Reading (read.branch plain) n (Word If ∷ Of Condition ∷ parts) → Beyond (read.inside plain from) to
  as_branch parts from to fits g r = same_beyond to (inside_if plain from (word_first g)) (r.goes from to fits g)

  pub choice_goes : (from to : List Lexeme) → length from ≤ n → Goes Choice from to → Beyond (read.inside plain from) to
  choice_goes from to fits (by rule.alone g) =
      as_branch _ from to fits g
      (branch_read _ (λ line cond. branched line cond [] (finished (statements.otherwise plain) n (otherwise_shrinks n (statement_goes n)))))
  choice_goes from to fits (by rule.otherwise g) =
      as_branch _ from to fits g
      (branch_read _ (λ line cond. branched line cond _ (record { shrinks = otherwise_shrinks n (statement_goes n); goes = else_block n (statement_goes n) })))
  choice_goes from to fits (by rule.else_if g) =
      as_branch _ from to fits g
      (branch_read _ (λ line cond. branched line cond _ (record { shrinks = otherwise_shrinks n (statement_goes n); goes = else_choice n (statement_goes n) })))
