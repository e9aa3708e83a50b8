-- A checked site is one of the region, and so has a place where each of these has one.
use Rattle.dp_semantics.proofs.Names.{◌≡◌, refl, sym, ap, ◌∙◌, arith, ℕ, ◌+◌, ◌-◌, ◌<◌, ◌≤◌, ◌==◌, ◌||◌, Bool, true, false, List, [], ◌∷◌, length, list_any}
use Rattle.dp_semantics.proofs.Names.{inl, inr, cases_lt, and_parts, Program, Plan, Access, first_site, region_accesses, fits_plan}
use Rattle.dp_tree.specs.Inlined.{IsInlined}
use Rattle.dp_plan.specs.Checked.{has_site, is_checked_access, may_differ}
use Rattle.dp_plan.specs.Access.{stage_of}
use Rattle.dp_columns.specs.declared.ColumnKind.{ColumnKind}
use Rattle.dp_lean_code.proofs.Missing.{none_below, none_past}
use Rattle.dp_lean_code.proofs.ProgramRight.{ascends}
use Rattle.dp_lean_turn.specs.Made.{CheckedHavePlaces}

module _ (p : Program) (plan : Plan) where
  found : (y : ℕ) (all : List Access) → list_any (is_checked_access p plan y) all ≡ true → has_site y all ≡ true
  found y [] e = e
  found y (a ∷ all) e = by (is_checked_access p plan y a) refl e (found y all)
    where
      more : (b c : Bool) → c ≡ true → (b || c) ≡ true
      more true c e = refl
      more false c e = e

      by : (b : Bool) → is_checked_access p plan y a ≡ b → (b || list_any (is_checked_access p plan y) all) ≡ true →
          (list_any (is_checked_access p plan y) all ≡ true → has_site y all ≡ true) → has_site y (a ∷ all) ≡ true
      by true is e rest =
          ap (λ (b : Bool). b || has_site y all) (and_parts (a.site == y) (list_any (may_differ p plan (stage_of p plan y) y) a.loads) is).0
      by false is e rest = more (a.site == y) (has_site y all) (rest e)

  module _ (inlined : IsInlined p) (fits : fits_plan p plan ≡ true) where
    among : (y : ℕ) → has_site y (region_accesses p plan) ≡ true → y - first_site p plan < length (region_accesses p plan)
    among y e =
        let up = ascends p plan inlined fits in
        elim (cases_lt y (first_site p plan)) [
          | inl low ↦ let clash = sym (none_below (first_site p plan) y (region_accesses p plan) up low) ∙ e in absurd (cc clash)
          | inr from ↦ elim (cases_lt y (first_site p plan + length (region_accesses p plan))) [
            | inl inside ↦ omega (arith, from, inside)
            | inr past ↦ let clash = sym (none_past (first_site p plan) y (region_accesses p plan) up past) ∙ e in absurd (cc clash)
          ]
        ]

    pub checked_places : (own : List ColumnKind) → length (region_accesses p plan) ≤ length own → CheckedHavePlaces p plan own
    checked_places own long y checked = let low = among y (found y (region_accesses p plan) checked) in omega (arith, low, long)
