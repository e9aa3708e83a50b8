-- What is still to be written of a run that is to be saved, from a place before the region on.
use Rattle.std.specs.Prelude.{ℕ, ◌-◌, false, List, ◌++◌, take, ℤ, Option, Some, None}
use Rattle.dp_tree.specs.declared.Program.{Program}
use Rattle.dp_tree.specs.Trace.{prints}
use Rattle.dp_plan.specs.declared.Plan.{Plan}
use Rattle.dp_meaning.specs.MachineState.{MachineState, fuel_left, rest_of_run}
use Rattle.dp_report.specs.PrintsText.{prints_bytes}
use Rattle.dp_run.specs.RunText.{closing_text, source_run}
use Rattle.dp_run.specs.Stretches.{to_come}
use Rattle.dp_save.specs.WrittenText.{checkpoint_bytes}
use Rattle.dp_resume.specs.Saved.{checkpoint_at}

-- the prints that are to come, and what follows them
abbrev pub ending_from : Program → List Plan → List ℤ → MachineState → List ℕ
ending_from p plans input m = prints_bytes (to_come m) ++ closing_text p plans (source_run p input m.fuel) false

-- how many steps of the fuel were made
abbrev pub made_by : MachineState → ℕ
made_by m = m.fuel - fuel_left m

-- .. or the prints up to the checkpoint after k steps, and this
abbrev pub left_from : Program → List Plan → List ℤ → ℕ → ℕ → MachineState → Option ℕ → List ℕ
left_from p plans input r n m None = ending_from p plans input m
left_from p plans input r n m (Some k) =
    prints_bytes (prints (take (k - made_by m) (rest_of_run m).trace)) ++ checkpoint_bytes (checkpoint_at p plans input m.fuel r n k)
