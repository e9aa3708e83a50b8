-- Where a machine stands before a part of `main`, and which regions are left.
use Rattle.std.specs.Prelude.{◌≡◌, ◌≢◌, ℕ, ◌<◌, ◌≤◌, List, [], ◌∷◌, map, filter_map, Option, Some, None}
use Rattle.dp_base.specs.declared.End.{End}
use Rattle.dp_tree.specs.declared.Stmt.{Stmt, out-Stmt}
use Rattle.dp_tree.specs.declared.Program.{Program}
use Rattle.dp_tree.specs.InMain.{StandsInMain}
use Rattle.dp_tree.specs.Inlined.{IsInlined}
use Rattle.dp_tree.specs.Step.{region_number}
use Rattle.dp_plan.specs.declared.Plan.{Plan}
use Rattle.dp_plan.specs.Each.{Each}
use Rattle.dp_plan.specs.GivenPlans.{IsPlan, region_of}
use Rattle.dp_meaning.specs.declared.ends.Part.TheVariants.{Plain, Region}
use Rattle.dp_meaning.specs.MachineState.{MachineState, next_part, part_of, rest_of_run}
use Rattle.dp_log.specs.LogText.{logged_regions}

-- the region's number
abbrev pub number_of_region : Stmt → Option ℕ
number_of_region s = region_number (out-Stmt s)

-- the numbers of the regions among these statements
abbrev pub regions_left : List Stmt → List ℕ
regions_left statements = filter_map number_of_region statements

-- two places in runs of one program, on one input, within one fuel
pub record SameRun (old new : MachineState) : Type 0 where
  pub program_is : new.program ≡ old.program
  pub input_is : new.input ≡ old.input
  pub fuel_is : new.fuel ≡ old.fuel

-- The machine stands between two parts of `main`, and these plans' regions are left.
pub record Standing (p : Program) (plans : List Plan) (m : MachineState) : Type 0 where
  pub inlined : IsInlined p
  pub program_is : m.program ≡ p
  pub stands : StandsInMain p m.config
  pub left : regions_left m.config.to_do ≡ map region_of plans
  pub between : m.current ≡ None

-- where a plain part leads: to the next part, with the same lines to come, or to the run's end, with none
abbrev pub PlainLeads : Program → List Plan → MachineState → MachineState → Option End → Type 0
PlainLeads p plans old new None = Standing p plans new × SameRun old new × (next_part new ≢ Plain)
    × (logged_regions p plans (rest_of_run old) ≡ logged_regions p plans (rest_of_run new)) × ((rest_of_run old).end ≡ (rest_of_run new).end)
PlainLeads p plans old new (Some end) = (logged_regions p plans (rest_of_run old) ≡ []) × ((rest_of_run old).end ≡ end)

-- The plan's region comes next for the machine, whose fuel is small.
pub record AtRegion (p : Program) (plan : Plan) (m : MachineState) : Type 0 where
  pub inlined : IsInlined p
  pub is_plan : IsPlan p plan
  pub program_is : m.program ≡ p
  pub stands : StandsInMain p m.config
  pub head : part_of m.config.to_do ≡ Region plan.region
  pub between : m.current ≡ None
  pub few : m.fuel ≤ 1000000000

-- the plan's region has a number above this one
abbrev pub IsAbove : ℕ → Plan → Type 0
IsAbove r plan = r < plan.region

-- the plans stand in the order of their regions
abbrev pub Ascending : List Plan → Type 0
Ascending [] = Unit {0}
Ascending (plan ∷ rest) = Each (IsAbove plan.region) rest × Ascending rest
