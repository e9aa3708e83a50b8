-- The plans under which regions are run in place of their own.
use Rattle.std.specs.Prelude.{if◌then◌else◌, ◌≡◌, Bool, not, ◌&&◌, List, map, length, nat_lt, Option, Some, None}
use Rattle.std.specs.List.{list_any}
use Rattle.dp_tree.specs.declared.Program.{Program}
use Rattle.dp_plan.specs.declared.Plan.{Plan}
use Rattle.dp_plan.specs.Each.{Each}
use Rattle.dp_plan.specs.GivenPlans.{IsPlan}
use Rattle.dp_prepared.specs.Planned.{IsPlanned, Prepared}
use Rattle.dp_run_plan.specs.RunPlan.{one_stage, RunsFor}

-- the plan's table says yes of no site
abbrev pub checks_nothing : Plan → Bool
checks_nothing plan = not (list_any (λ (checked : Bool). checked) plan.checked_at)

-- the one-stage form of a plan, where others may be chosen, the plan has several stages and it hides nothing
abbrev pub other_of : Bool → Plan → Option Plan
other_of chooses plan = if chooses && nat_lt 1 (length plan.stages) && checks_nothing plan then Some (one_stage plan) else None

-- of each plan
abbrev pub others_of : Bool → List Plan → List (Option Plan)
others_of chooses plans = map (other_of chooses) plans

-- other plans of the regions of a program: for each its own one-stage form, where it may be chosen, and plans that may be ones for it
pub record OtherPlans : Type 0 where
  pub others : List (Option Plan)
  pub wholes : List Plan

-- they are other plans of these plans' regions
pub record AreOthers (p : Program) (plans : List Plan) (o : OtherPlans) : Type 0 where
  pub chooses : Bool
  pub others : o.others ≡ others_of chooses plans
  pub wholes : Each (IsPlan p) o.wholes

-- the entry, if there is one
abbrev pub plan_entry : Option (Option Plan) → Option Plan
plan_entry None = None
plan_entry (Some other) = other

-- the other plan, if there is one, is given for the program, and the region may be run under it
abbrev pub MayRunAs : Program → Plan → Option Plan → Type 0
MayRunAs p plan None = Unit {0}
MayRunAs p plan (Some other) = IsPlanned p other × RunsFor p plan other

-- a region may be run as this one, of the same program
abbrev pub RunsAs : Prepared → Prepared → Type 0
RunsAs region other = (other.program ≡ region.program) × RunsFor region.program region.plan other.plan

-- .. if there is one
abbrev pub HasOther : Prepared → Option Prepared → Type 0
HasOther region None = Unit {0}
HasOther region (Some other) = RunsAs region other
