-- Where a region comes next, or is left, its locals read 0.
use Rattle.std.proofs.Common.{◌≡◌, sym, ap, ◌∙◌, ℕ, Bool, true, false, not, if◌then◌else◌, List, [], ◌∷◌, ◌++◌, ℤ, Option, Some, eqb-true}
use Rattle.std.proofs.lemmas.Bool.{and_parts}
use Rattle.dp_base.specs.Arithmetic.{is_zero}
use Rattle.dp_tree.specs.declared.Stmt.{Stmt, out-Stmt, roll-Stmt, roll-out-Stmt}
use Rattle.dp_tree.specs.declared.Stmt.TheViews.{rolls-Assign, rolls-Store, rolls-Print, rolls-If, rolls-While, rolls-Region, rolls-Break, rolls-Call}
use Rattle.dp_tree.specs.declared.Stmt.TheOpen.{Stmt-F, Assign, Store, Print, If, While, Region, Break, Call}
use Rattle.dp_tree.specs.declared.Program.{Program}
use Rattle.dp_tree.specs.Event.{Effect, stored, value_of}
use Rattle.dp_tree.specs.Iteration.{begins_with, is_region}
use Rattle.dp_tree.specs.Numbering.{is_inner}
use Rattle.dp_tree.specs.Step.{clear_locals, clear_one, cleared_at, cleared_leaving, region_number, standing, stored_by}
use Rattle.dp_tree.proofs.Heads.{taken}
use Rattle.dp_tree.proofs.Inner.{inner_all, inner_out, no_number}
use Rattle.dp_calls.specs.AtHome.{region_at_top}
unfoldable use Rattle.dp_tree.proofs.Heads.{opened_statement}

-- ---- a region at the head

number_is : (r : ℕ) (h : Stmt-F Stmt) → is_region r h ≡ true → region_number h ≡ Some r
number_is r (Region q site cond a) on = ap (λ (n : ℕ). Some n) (eqb-true q r on)
number_is r _ on = absurd (cc on)

module _ (p : Program) (r : ℕ) where
  head_clears : (h : Stmt-F Stmt) (cells : List ℤ) → is_region r h ≡ true → cleared_at p h cells ≡ clear_locals r p.vars cells
  head_clears (Region q site cond a) cells on = ap (λ (n : ℕ). clear_locals n p.vars cells) (eqb-true q r on)
  head_clears _ cells on = absurd (cc on)

  pub standing_clears : (xs : List Stmt) (cells : List ℤ) → begins_with r xs ≡ true → (standing p xs cells).cells ≡ clear_locals r p.vars cells
  standing_clears [] cells on = absurd (cc on)
  standing_clears (x ∷ xs) cells on = head_clears (out-Stmt x) cells on

  -- the region is left from within its body
  leaving_clears : (inner behind : List Stmt) (cells : List ℤ) → inner_all inner ≡ true → begins_with r behind ≡ true →
      cleared_leaving p (inner ++ behind) cells ≡ clear_locals r p.vars cells
  leaving_clears [] [] cells plain on = absurd (cc on)
  leaving_clears [] (x ∷ behind) cells plain on = ap (λ (o : Option ℕ). clear_one p o cells (cleared_leaving p behind cells)) (number_is r (out-Stmt x) on)
  leaving_clears (x ∷ inner) behind cells plain on =
      let both = and_parts (is_inner x) (inner_all inner) plain in
      ap (λ (o : Option ℕ). clear_one p o cells (cleared_leaving p (inner ++ behind) cells)) (no_number (out-Stmt x) (sym (inner_out x) ∙ both.0))
      ∙ leaving_clears inner behind cells both.1 on

  pub taken_clears : (inner behind : List Stmt) (h : Stmt-F Stmt) (effect : Effect) (cells : List ℤ) → taken h (value_of effect) ≡ true →
      inner_all inner ≡ true → begins_with r behind ≡ true →
      stored_by p (inner ++ behind) h effect cells ≡ clear_locals r p.vars (stored effect cells)
  taken_clears inner behind (Break site cond) effect cells t plain on = by (is_zero (value_of effect)) t
    where
      by : (b : Bool) → not b ≡ true → (if b then stored effect cells else cleared_leaving p (inner ++ behind) (stored effect cells)) ≡ clear_locals r p.vars
          (stored effect cells)
      by true t = absurd (cc t)
      by false t = leaving_clears inner behind (stored effect cells) plain on
  taken_clears inner behind _ effect cells t plain on = absurd (cc t)

-- ---- the region at the top of `main`

-- the head's number, if it is a region, and else 0
abbrev pub head_region : Stmt-F Stmt → ℕ
head_region (Region q site cond a) = q
head_region _ = 0

top_roll : (h : Stmt-F Stmt) → region_at_top (roll-Stmt h) ≡ head_region h
unfolding opened_statement
top_roll (Assign site x e) = ap region_at_top (rolls-Assign site x e)
top_roll (Store site x index e) = ap region_at_top (rolls-Store site x index e)
top_roll (Print site e) = ap region_at_top (rolls-Print site e)
top_roll (If site cond a b) = ap region_at_top (rolls-If site cond a b)
top_roll (While site cond a) = ap region_at_top (rolls-While site cond a)
top_roll (Region q site cond a) = ap region_at_top (rolls-Region q site cond a)
top_roll (Break site cond) = ap region_at_top (rolls-Break site cond)
top_roll (Call f line args) = ap region_at_top (rolls-Call f line args)

pub top_out : (x : Stmt) → region_at_top x ≡ head_region (out-Stmt x)
top_out x = ap region_at_top (sym (roll-out-Stmt x)) ∙ top_roll (out-Stmt x)
