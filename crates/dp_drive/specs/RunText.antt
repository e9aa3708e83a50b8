-- The text of a run, from what the source means.
use Rattle.std.specs.Prelude.{◌≡◌, ℕ, Bool, List, ◌++◌, ℤ}
use Rattle.dp_tree.specs.declared.Program.{Program}
use Rattle.dp_calls.specs.Expand.{expand}
use Rattle.dp_calls.specs.Frames.{outcome}
use Rattle.dp_plan.specs.declared.Plan.{Plan}
use Rattle.dp_report.specs.PrintsText.{prints_bytes}
use Rattle.dp_report.specs.EndText.{end_bytes}
use Rattle.dp_report.specs.StateText.{state_bytes}
use Rattle.dp_run.specs.RunText.{final_cells, region_reports, source_run, trace_text}

-- The text of a program's run under plans for its regions. Prints, file-scope values and the end are those of the source, with a frame for each
-- call; regions and their iterations are those of the program with its calls expanded.
abbrev pub run_text : Program → List Plan → List ℤ → ℕ → Bool → List ℕ
run_text p plans input fuel why =
    prints_bytes (outcome p input fuel).prints
    ++ end_bytes p (outcome p input fuel).globals (region_reports (expand p) plans (source_run (expand p) input fuel)) (outcome p input fuel).end why

-- Of the source with a frame for each call, and of the program with its calls expanded, the file-scope variables at the end and the whole text are the same.
pub record TextsAgree (p : Program) (plans : List Plan) (input : List ℤ) (fuel : ℕ) (why : Bool) : Type 0 where
  pub state : state_bytes p.vars (outcome p input fuel).globals ≡ state_bytes (expand p).vars (final_cells (source_run (expand p) input fuel))
  pub text : run_text p plans input fuel why ≡ trace_text (expand p) plans (source_run (expand p) input fuel) why
