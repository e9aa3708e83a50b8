-- A program with a plan for one of its regions.
use Rattle.std.specs.Prelude.{◌≤◌, length}
use Rattle.dp_tree.specs.declared.Program.{Program}
use Rattle.dp_tree.specs.Inlined.{IsInlined}
use Rattle.dp_plan.specs.declared.Plan.{Plan}
use Rattle.dp_plan.specs.GivenPlans.{IsPlan}

-- an inlined program, and a plan that is given for one of its regions
pub record IsPlanned (p : Program) (plan : Plan) : Type 0 where
  pub inlined : IsInlined p
  pub is_plan : IsPlan p plan
  pub counted : 1 ≤ plan.region
  pub known : plan.region ≤ length p.regions

-- what a prepared region is of
pub record Prepared : Type 0 where
  pub program : Program
  pub plan : Plan

-- a plan's region in a program
abbrev pub prepared_of : Program → Plan → Prepared
prepared_of p plan = record { program = p; plan = plan }
