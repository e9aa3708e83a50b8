-- The run after each prepared region.
use Rattle.std.proofs.Common.{◌≡◌, sym, subst, ℕ, suc, ◌+◌, ◌<◌, Bool, List, [], ◌∷◌, ◌++◌, ℤ, length, slice_get, Option, Some, arith}
use Rattle.std.proofs.lemmas.List.{length-map}
use Rattle.dp_base.specs.declared.End.{End}
use Rattle.dp_base.specs.declared.RegionReport.{RegionReport}
use Rattle.dp_tree.specs.declared.Program.{Program}
use Rattle.dp_tree.specs.Trace.{Run}
use Rattle.dp_semantics.specs.Reported.{region_report}
use Rattle.dp_meaning.specs.MachineState.{MachineState, rest_of_run}
use Rattle.dp_prepared.specs.Planned.{Prepared}
use Rattle.dp_crew.specs.Output.{Emits}
use Rattle.dp_run.specs.Given.{AreNext}
use Rattle.dp_run.specs.Prepared.{AreOf, plan_in, plans_in}
use Rattle.dp_run.specs.RunText.{committed_count}
use Rattle.dp_epoch.specs.Accounts.{told_when}
use Rattle.dp_run.specs.Stretches.{Ahead, Between, Counted, FrontBefore, Leads, to_come}
use Rattle.dp_run.proofs.PlanByPlan.{counts_next, front_next, leads_next, starts_next}
use Rattle.dp_run.proofs.PlansIn.{of_at, plan_at}

-- there are as many plans as regions
pub as_many_plans : (regions : List Prepared) → length (plans_in regions) ≡ length regions
as_many_plans regions = length-map regions plan_in

module _ (p : Program) (regions : List Prepared) (input : List ℤ) (fuel : ℕ) (run : Run) (n k : ℕ) (given : AreNext p n (plans_in regions))
    (are : AreOf p regions) (r : Prepared) (is : slice_get regions k ≡ Some r) (m : MachineState)
    (b : Between p input fuel run (n + k) m) where
  is_of : r.program ≡ p
  is_of = of_at p regions k r are is

  found : slice_get (plans_in regions) k ≡ Some r.plan
  found = plan_at regions k r is

  pub region_starts : (u : Run) × (j : ℕ) × (r.plan.region ≡ suc j) × Between r.program input m.fuel u j m
  region_starts = subst (λ (q : Program). (u : Run) × (j : ℕ) × (r.plan.region ≡ suc j) × Between q input m.fuel u j m) (sym is_of)
      (starts_next p (plans_in regions) input fuel run n k given r.plan found m b)

  pub region_leads : (last : MachineState) (o : Option End) → ((u : Run) (j : ℕ) → r.plan.region ≡ suc j → Between r.program input m.fuel u j m →
      Leads r.program input m.fuel u (suc j) last o) → Leads p input fuel run (n + (k + 1)) last o
  region_leads last o ran =
      leads_next p (plans_in regions) input fuel run n k given r.plan found m b last o
      (subst (λ (q : Program). (u : Run) (j : ℕ) → r.plan.region ≡ suc j → Between q input m.fuel u j m → Leads q input m.fuel u (suc j) last o) is_of ran)

  pub region_counts : {why : Bool} (told reports more : List RegionReport) (before mid now : ℕ) →
      Counted why p (plans_in regions) run k told reports before mid →
      ((u : Run) (j : ℕ) → r.plan.region ≡ suc j → Between r.program input m.fuel u j m →
      more ≡ reports ++ told_when why (region_report r.program r.plan u) ∷ []) →
      ((u : Run) (j : ℕ) → r.plan.region ≡ suc j → Between r.program input m.fuel u j m → now ≡ mid + committed_count r.program r.plan u) →
      Counted why p (plans_in regions) run (k + 1) told more before now
  region_counts {why = why} told reports more before mid now counted reported tally =
      counts_next p (plans_in regions) input fuel run n k given r.plan found m b told reports more before mid now counted
      (subst (λ (q : Program). (u : Run) (j : ℕ) → r.plan.region ≡ suc j → Between q input m.fuel u j m →
      more ≡ reports ++ told_when why (region_report q r.plan u) ∷ []) is_of reported)
      (subst (λ (q : Program). (u : Run) (j : ℕ) → r.plan.region ≡ suc j → Between q input m.fuel u j m → now ≡ mid + committed_count q r.plan u) is_of tally)

-- It stopped in the next region, or in the plain part behind it: so before each region behind all of these.
pub region_front : (p : Program) (regions : List Prepared) (input : List ℤ) (fuel : ℕ) (run : Run) (n : ℕ) (first : MachineState) →
    Ahead p (plans_in regions) input fuel run n first → (k : ℕ) → k < length regions → (r : Prepared) → slice_get regions k ≡ Some r →
    (m : MachineState) → (Ahead p (plans_in regions) input fuel (rest_of_run first) n first → Between p input fuel (rest_of_run first) (n + k) m) →
    (told mid tells : Option (List ℕ)) → Emits (to_come first) (to_come m) told mid →
    FrontBefore (suc r.plan.region) [] m mid tells → FrontBefore (suc (n + length regions)) [] first told tells
region_front p regions input fuel run n first a k below r is m there told mid tells e f =
    let many = as_many_plans regions in
    subst (λ (count : ℕ). FrontBefore (suc (n + count)) [] first told tells) many
    (front_next p (plans_in regions) input fuel run n first a k (omega (arith, below, many)) r.plan (plan_at regions k r is) m there told mid tells e f)
