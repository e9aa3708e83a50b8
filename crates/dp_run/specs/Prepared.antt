-- A program whose regions are ready to be run, each under its plan.
use Rattle.std.specs.Prelude.{◌≡◌, List, map}
use Rattle.dp_tree.specs.declared.Program.{Program}
use Rattle.dp_plan.specs.declared.Plan.{Plan}
use Rattle.dp_plan.specs.Each.{Each}
use Rattle.dp_prepared.specs.Planned.{Prepared}

-- a program, and a plan for each of its regions, in order
pub record PlannedProgram : Type 0 where
  pub program : Program
  pub plans : List Plan

-- the plan under which a region is ready
abbrev pub plan_in : Prepared → Plan
plan_in r = r.plan

-- those of several regions
abbrev pub plans_in : List Prepared → List Plan
plans_in regions = map plan_in regions

-- the region is one of the program
abbrev pub IsOf : Program → Prepared → Type 0
IsOf p r = r.program ≡ p

-- all of them are
abbrev pub AreOf : Program → List Prepared → Type 0
AreOf p regions = Each (IsOf p) regions
