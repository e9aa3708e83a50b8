-- The texts of a run, when they were read.
use Rattle.std.specs.Prelude.{◌≤◌, ℕ, List, ℤ, length}
use Rattle.dp_tree.specs.declared.Program.{Program}
use Rattle.dp_plan.specs.declared.Plan.{Plan}
use Rattle.dp_words.specs.Run.{RunAsked, RunWithin}
use Rattle.dp_run.specs.Given.{AreGiven}
use Rattle.dp_load.specs.declared.texts.Texts.TheVariants as texts
use Rattle.dp_load.specs.Roles.{Contents}
use Rattle.dp_load.specs.Texts.{LoadsTexts, FailedNames}

-- The run's texts were read as this, and no read failed.
abbrev pub WereLoaded : Contents → RunAsked → ℕ → FailedNames → Program → List ℤ → List Plan → Type 0
WereLoaded contents run faults failed q numbers plans = LoadsTexts contents run faults faults failed failed (texts.Run q numbers plans)

-- Such a run may be made.
pub record MayRun (run : RunAsked) (q : Program) (numbers : List ℤ) (plans : List Plan) : Type 0 where
  pub within : RunWithin run
  pub given : AreGiven q plans
  pub words : length numbers ≤ 65536
