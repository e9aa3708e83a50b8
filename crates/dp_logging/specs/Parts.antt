-- How far a run was brought, part by part.
use Rattle.std.specs.Prelude.{◌≡◌, ℕ, ◌+◌, ◌≤◌, List, ℤ, length, Option, None}
use Rattle.dp_base.specs.declared.End.{End}
use Rattle.dp_tree.specs.declared.Program.{Program}
use Rattle.dp_tree.specs.Trace.{Run}
use Rattle.dp_plan.specs.declared.Plan.{Plan}
use Rattle.dp_meaning.specs.MachineState.{MachineState}
use Rattle.dp_run.specs.Stretches.{Leads}

-- The run went on by the first of these plans' regions: by all of them, or to its end.
pub record WentBy (p : Program) (plans : List Plan) (input : List ℤ) (fuel : ℕ) (run : Run) (n : ℕ) (m : MachineState) (end : Option End) : Type 0 where
  pub count : ℕ
  pub within : count ≤ length plans
  pub all : end ≡ None → count ≡ length plans
  pub leads : Leads p input fuel run (n + count) m end
