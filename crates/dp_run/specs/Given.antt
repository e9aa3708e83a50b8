-- What a whole run asks of its program and its plans.
use Rattle.std.specs.Prelude.{◌≡◌, ℕ, suc, ◌+◌, ◌≤◌, List, length, map}
use Rattle.dp_tree.specs.declared.Program.{Program}
use Rattle.dp_tree.specs.Inlined.{IsInlined}
use Rattle.dp_tree.specs.Numbering.{numbers_from}
use Rattle.dp_plan.specs.declared.Plan.{Plan}
use Rattle.dp_plan.specs.Each.{Each}
use Rattle.dp_plan.specs.GivenPlans.{ArePlans, IsPlan, region_of}

-- an inlined program, and a plan for each of its regions, in order
pub record AreGiven (p : Program) (plans : List Plan) : Type 0 where
  pub inlined : IsInlined p
  pub plans_are : ArePlans p plans

-- an inlined program, and plans for the regions that come next behind region n, in order: for all of them, or for the first
pub record AreNext (p : Program) (n : ℕ) (plans : List Plan) : Type 0 where
  pub inlined : IsInlined p
  pub regions : map region_of plans ≡ numbers_from (suc n) (length plans)
  pub within : n + length plans ≤ length p.regions
  pub each : Each (IsPlan p) plans
