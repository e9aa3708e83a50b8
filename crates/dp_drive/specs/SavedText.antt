-- What is read of the text of a run that was saved.
use Rattle.std.specs.Prelude.{◌≡◌, ℕ, ◌≤◌, List, ◌++◌, ℤ, Option, Some, Ok}
use Rattle.dp_base.specs.declared.limits.TheConstants.{FUEL}
use Rattle.dp_tree.specs.declared.Program.{Program}
use Rattle.dp_calls.specs.Expand.{expand}
use Rattle.dp_plan.specs.declared.Plan.{Plan}
use Rattle.dp_plan.specs.GivenPlans.{ArePlans}
use Rattle.dp_words.specs.declared.task.Place.{Place}
use Rattle.dp_save.specs.declared.Checkpoint.{Checkpoint}
use Rattle.dp_save.specs.Refused.{ReadsOnlyCheckpoint}
use Rattle.dp_save.specs.WrittenText.{checkpoint_bytes}
use Rattle.dp_resume.specs.Saved.{checkpoint_at}
use Rattle.dp_load.specs.Roles.{Contents, Input, ProgramOf}
use Rattle.dp_drive.specs.Pieces.{reached_at, saved_text}

-- the text ends with that of this checkpoint, which is read back as this checkpoint and as nothing else
pub record EndsWith (p : Program) (text : List ℕ) (c : Checkpoint) : Type 0 where
  pub before : List ℕ
  pub is : text ≡ before ++ checkpoint_bytes c
  pub read : ReadsOnlyCheckpoint p (checkpoint_bytes c) c

-- Under plans that are given, a program that is read, on an input that is read, leaves such a text where its place is reached: after k steps.
abbrev pub SavedTextsAreRead : Contents → Type 0
SavedTextsAreRead contents = (program input : Option (List ℕ)) (p : Program) (numbers : List ℤ) (plans : List Plan) (fuel k : ℕ) (place : Place) →
    ProgramOf contents program (Ok p) → Input contents input (Ok numbers) → ArePlans (expand p) plans → fuel ≤ FUEL → reached_at p numbers fuel place ≡ Some k →
    EndsWith (expand p) (saved_text p plans numbers fuel place) (checkpoint_at (expand p) plans numbers fuel place.region place.after k)
