-- A plan that is valid as data is what its lines stand for, so it fits and is tabled.
use Rattle.dp_semantics.proofs.Names.{◌≡◌, ◌⊎◌, inl, inr, refl, sym, ap, ◌∙◌, ℕ, ◌+◌, ◌-◌, ◌<◌, ◌≤◌, ◌==◌, Some, slice_get, RegionInfo, true, false, List, []}
use Rattle.dp_semantics.proofs.Names.{◌∷◌, map, length, None, arith, lt-ltb, and_from, cases_Bool, list_all, flat_map, Stmt, Program, Plan, accesses, fits_plan}
use Rattle.dp_semantics.proofs.Names.{region_in}
use Rattle.std.proofs.lemmas.Option.{slice_get_within}
use Rattle.dp_tree.specs.Inlined.{IsInlined}
use Rattle.dp_plan.specs.CheckedTable.{IsTabled}
use Rattle.dp_plan.specs.GivenPlans.{IsPlan}
use Rattle.dp_plan.specs.Each.{Each}
use Rattle.dp_plan.specs.PlanFits.{StageFits}
use Rattle.dp_plan.specs.Rules.{first_in}
use Rattle.dp_plan.specs.Valid.{first_broken}
use Rattle.dp_plan.specs.declared.WrittenPlan.{WrittenPlan}
use Rattle.dp_plan.specs.declared.WrittenStage.{WrittenStage}
use Rattle.dp_plan.specs.Written.{has, listed_sites, region_sites, access_site, written_of, written_stage}
use Rattle.dp_plan.proofs.PlanBack.{plan_back, plan_fits}
use Rattle.dp_plan.proofs.RegionFacts.{InOrder, in_order}
use Rattle.dp_plan.proofs.RegionOrder.{Sought, absent, present}
use Rattle.dp_plan.proofs.RulesHold.{condition_first, none_foreign, valid_unbroken}
use Rattle.dp_semantics.specs.ValidPlan.{WrittenAs, lists_site}
use Rattle.dp_theorem.proofs.TextOrder.{has_fact}
use Rattle.dp_theorem.proofs.WrittenStages.{stage_unlisted}
use Rattle.dp_theorem.proofs.ValidFits.{sought, valid_fits}
use Rattle.dp_theorem.proofs.ValidTables.{valid_tabled}

-- a region that isn't there has no valid plan
pub nowhere : (p : Program) (w : WrittenPlan) → first_broken p w ≡ None → region_in p w.region ≡ [] → ⊥
nowhere p w valid none = let clash = sym (ap (λ (n : ℕ). n == 1) (stage_unlisted 1 w.stages 0 (by (cases_Bool (has 0 (listed_sites w)))))) ∙ there in cc clash
  where
    empty : region_sites p w.region ≡ []
    empty = ap (λ (xs : List Stmt). map access_site (flat_map accesses xs)) none

    there : (written_stage w 0 == 1) ≡ true
    there = ap (λ (ns : List ℕ). written_stage w (first_in ns) == 1) (sym empty) ∙ condition_first p w valid

    by : (has 0 (listed_sites w) ≡ true) ⊎ (has 0 (listed_sites w) ≡ false) → has 0 (listed_sites w) ≡ false
    by (inl e) = let clash : has 0 [] ≡ true = ap (has 0) (sym empty) ∙ has_fact (λ n. has n (region_sites p w.region) ≡ true) (listed_sites w) 0
        (none_foreign p w valid) e in absurd (cc clash)
    by (inr e) = e

found_low : (r : ℕ) (entries : List RegionInfo) (entry : RegionInfo) → 1 ≤ r → slice_get entries (r - 1) ≡ Some entry → r < 1 + length entries
found_low r entries entry low at = let here = slice_get_within entries (r - 1) entry at in omega (arith, here, low)

-- each line of a plan that fits lists a site
pub filled : (lines : List WrittenStage) → Each StageFits lines → list_all lists_site lines ≡ true
filled [] fit = refl
filled (line ∷ rest) fit = and_from (lists_site line) _ (lt-ltb 0 (length line.sites) (omega (arith, fit.0.0))) (filled rest fit.1)

module _ (p : Program) (inlined : IsInlined p) (plan : Plan) (is : IsPlan p plan) where
  unbroken : first_broken p (written_of p plan) ≡ None
  unbroken = valid_unbroken p (written_of p plan) is.valid

  pub region_within : (1 ≤ plan.region) × (plan.region < 1 + length p.regions)
  region_within = by (sought inlined plan.region)
    where
      by : Sought plan.region 1 1 p.main p.regions → (1 ≤ plan.region) × (plan.region < 1 + length p.regions)
      by (absent none out) = absurd (nowhere p (written_of p plan) unbroken none)
      by (present entry low at q least most) = (low, found_low plan.region p.regions entry low at)

  order : InOrder p plan
  order = in_order p inlined plan region_within.0 region_within.1

  written : WrittenAs p (written_of p plan) plan
  written = record {
    valid = unbroken;
    filled = filled (written_of p plan).stages (plan_fits p plan is
        order).stages;
    plan_is = sym (plan_back p plan is order);
  }

  pub given_fits : fits_plan p plan ≡ true
  given_fits = valid_fits p plan inlined (written_of p plan) written

  pub given_tabled : IsTabled p plan
  given_tabled = valid_tabled p plan inlined (written_of p plan) written
