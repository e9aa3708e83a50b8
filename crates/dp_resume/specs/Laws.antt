-- The laws of runs that are saved and resumed.
use Rattle.std.specs.Prelude.{◌≡◌, ℕ, ◌≤◌, true, List, length, ◌++◌, ℤ, Some}
use Rattle.dp_base.specs.Arithmetic.{fits}
use Rattle.dp_base.specs.declared.limits.TheConstants.{FUEL, INPUT_WORDS}
use Rattle.dp_text.specs.Each.{Each}
use Rattle.dp_tree.specs.declared.Program.{Program}
use Rattle.dp_tree.specs.Iteration.{start}
use Rattle.dp_plan.specs.declared.Plan.{Plan}
use Rattle.dp_run.specs.Given.{AreGiven}
use Rattle.dp_run.specs.RunText.{source_run}
use Rattle.dp_calls.specs.AtHome.{numbers_fit, stores_at_home}
use Rattle.dp_calls.specs.Starts.{locals_start_clear}
use Rattle.dp_save.specs.declared.Checkpoint.{Checkpoint}
use Rattle.dp_save.specs.Fits.{Fits}
use Rattle.dp_save.specs.Refused.{ReadsOnlyCheckpoint}
use Rattle.dp_save.specs.WrittenText.{checkpoint_bytes}
use Rattle.dp_resume.specs.Saved.{checkpoint_at, text_before}
use Rattle.dp_resume.specs.Resumed.{resumed_bytes, run_bytes_at}

-- Where iteration n of region r is reached, the text before the checkpoint there and the text of the run that goes on from it are the text of one run
-- that begins an epoch there.
abbrev pub GoesOnInText : Program → List Plan → Type 0
GoesOnInText p plans = AreGiven p plans → (input : List ℤ) (fuel r n k : ℕ) → start (source_run p input fuel) r n ≡ Some k →
    text_before (source_run p input fuel) k ++ resumed_bytes p plans input (checkpoint_at p plans input fuel r n k) ≡ run_bytes_at p plans
    (source_run p input fuel) r n

-- So is each checkpoint that is reached in a run within the limits, on numbers of 64 bits, of a program whose locals of regions' bodies start at 0 and are
-- stored in their own regions alone.
abbrev pub WhereSaved : (Checkpoint → Type 0) → Program → List Plan → Type 0
WhereSaved IsSo p plans = AreGiven p plans → stores_at_home p ≡ true → locals_start_clear p ≡ true → numbers_fit p ≡ true →
    (input : List ℤ) (fuel r n k : ℕ) → length input ≤ INPUT_WORDS → Each (λ z. fits z ≡ true) input → fuel ≤ FUEL →
    start (source_run p input fuel) r n ≡ Some k →
    IsSo (checkpoint_at p plans input fuel r n k)

-- It fits the program.
abbrev pub SavedFits : Program → List Plan → Type 0
SavedFits p plans = WhereSaved (Fits p) p plans

-- What is written of it is read back as this checkpoint, and as nothing else.
abbrev pub SavedIsRead : Program → List Plan → Type 0
SavedIsRead p plans = WhereSaved (λ c. ReadsOnlyCheckpoint p (checkpoint_bytes c) c) p plans
