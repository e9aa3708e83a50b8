-- What a run does in the end.
use Rattle.std.specs.Prelude.{◌≡◌, ℕ, ◌+◌, Bool, List, ◌++◌, ℤ, Option, Result, OnOk}
use Rattle.dp_tree.specs.declared.Program.{Program}
use Rattle.dp_plan.specs.declared.Plan.{Plan}
use Rattle.dp_edge.specs.declared.writing.WriteFail.{WriteFail}
use Rattle.dp_run.specs.RunText.{committed_in_all, source_run, trace_text}
use Rattle.dp_drive.specs.steps.Carried.{Finishes}
use Rattle.dp_refusal.specs.Refusal.{exit_status}

-- The line and the text of the expanded program's run were written, or a front of both, and the status is that of its end. Where it ended, the
-- tally grew by the iterations that were committed from a pipeline.
pub record Runs (line : List ℕ) (p : Program) (plans : List Plan) (numbers : List ℤ) (fuel : ℕ) (why : Bool) (told tells : Option (List ℕ)) (before after : ℕ)
    (result : Result ℕ WriteFail) : Type 0 where
  pub finishes : Finishes (exit_status (source_run p numbers fuel).end) (line ++ trace_text p plans (source_run p numbers fuel) why) told tells result
  pub counted : OnOk result (after ≡ before + committed_in_all p plans (source_run p numbers fuel))
