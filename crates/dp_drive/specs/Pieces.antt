-- What is answered where a run is made in pieces: saved before an iteration, and gone on with.
use Rattle.std.specs.Prelude.{ℕ, false, List, [], ◌++◌, ℤ, Option, Some, None}
use Rattle.dp_base.specs.declared.End.{End}
use Rattle.dp_tree.specs.declared.Program.{Program}
use Rattle.dp_tree.specs.Iteration.{start}
use Rattle.dp_calls.specs.Expand.{expand}
use Rattle.dp_calls.specs.Frames.{outcome}
use Rattle.dp_plan.specs.declared.Plan.{Plan}
use Rattle.dp_words.specs.declared.task.Place.{Place}
use Rattle.dp_run.specs.RunText.{source_run}
use Rattle.dp_save.specs.declared.Checkpoint.{Checkpoint}
use Rattle.dp_resume.specs.Saved.{checkpoint_at, text_before}
use Rattle.dp_save.specs.WrittenText.{checkpoint_bytes}
use Rattle.dp_resume.specs.Resumed.{resumed_bytes, resumed_run}
use Rattle.dp_refusal.specs.Refusal.{exit_status}
use Rattle.dp_load.specs.Last.{LastText, Logged, Nothing, SavedAt}
use Rattle.dp_drive.specs.RunText.{run_text}

-- the number of steps after which the place is reached, if it is
abbrev pub reached_at : Program → List ℤ → ℕ → Place → Option ℕ
reached_at p input fuel place = start (source_run (expand p) input fuel) place.region place.after

-- The prints up to the place, which is reached after so many steps, and the checkpoint there; the text of the run, where it isn't reached.
abbrev pub saved_at_place : Program → List Plan → List ℤ → ℕ → Place → Option ℕ → List ℕ
saved_at_place p plans input fuel place None = run_text p plans input fuel false
saved_at_place p plans input fuel place (Some k) =
    text_before (source_run (expand p) input fuel) k ++ checkpoint_bytes (checkpoint_at (expand p) plans input fuel place.region place.after k)

abbrev pub saved_text : Program → List Plan → List ℤ → ℕ → Place → List ℕ
saved_text p plans input fuel place = saved_at_place p plans input fuel place (reached_at p input fuel place)

-- .. and the status: that of the run's end, where the place isn't reached
abbrev pub status_unless : ℕ → Option ℕ → ℕ
status_unless status None = status
status_unless status (Some k) = 0

abbrev pub saved_status : Program → List ℤ → ℕ → Place → ℕ
saved_status p input fuel place = status_unless (exit_status (outcome p input fuel).end) (reached_at p input fuel place)

-- the checkpoint that was read
abbrev pub checkpoint_in : LastText → Checkpoint
checkpoint_in (SavedAt c) = c
checkpoint_in Nothing = record { region = 0; after = 0; steps = 0; fuel = 0; cells = []; reports = [] }
checkpoint_in (Logged text) = record { region = 0; after = 0; steps = 0; fuel = 0; cells = []; reports = [] }

-- the text from a checkpoint on, and how the run ends
abbrev pub resumed_text : Program → List Plan → List ℤ → Checkpoint → List ℕ
resumed_text p plans input c = resumed_bytes (expand p) plans input c

abbrev pub resumed_end : Program → List ℤ → Checkpoint → End
resumed_end p input c = (resumed_run (expand p) input c).end
