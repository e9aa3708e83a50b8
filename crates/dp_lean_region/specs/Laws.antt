-- What is so of each epoch of a region.
use Rattle.std.specs.Prelude.{◌≡◌, ◌≤◌, ℕ}
use Rattle.dp_tree.specs.declared.Program.{Program}
use Rattle.dp_plan.specs.declared.Plan.{Plan}
use Rattle.dp_semantics.specs.EpochKey.{EpochKey}
use Rattle.dp_lean_epoch.specs.Laws.{EpochBegins}
use Rattle.dp_lean_region.specs.LeanEpoch.{LeanEpoch, epoch_marks, IsLeanEpoch, HasJudgeLaws}
use Rattle.dp_lean_region.specs.Region.{lean_epoch}

-- The laws hold in it, for its stages and for its judge, and all stand where it begins.
pub record IsLawful (e : LeanEpoch) : Type 0 where
  pub lean : IsLeanEpoch e
  pub judge : HasJudgeLaws e
  pub begins : EpochBegins (epoch_marks e) e.key

-- So it is of each epoch of the region in which no more than so many iterations go together.
abbrev pub AreLawful : Program → Plan → ℕ → Type 0
AreLawful p plan most = (key : EpochKey) (cap : ℕ) → key.program ≡ p → key.plan ≡ plan → cap ≤ most → IsLawful (lean_epoch key cap)
