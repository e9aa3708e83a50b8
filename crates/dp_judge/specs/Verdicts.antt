-- The verdicts on a batch, and where the judging stands before an iteration.
use Rattle.std.specs.Prelude.{◌≡◌, ◌<◌, ◌≤◌, ℕ, suc, ◌+◌, true, List, ℤ, length, Some, slice_get}
use Rattle.dp_semantics.specs.EpochVerdicts.{verdict_at}
use Rattle.dp_net.specs.NetVerdicts.{GoesOnTo}
use Rattle.dp_judge.specs.Told.{SaysDecided, goes_on_behind}
use Rattle.dp_judge.specs.declared.verdict.Verdict.{Verdict}
use Rattle.dp_lean_judge.specs.Judged.{SameWhereChecked}
use Rattle.dp_lean_epoch.specs.Coming.{LeanJudges}
use Rattle.dp_lean_epoch.specs.JudgeSteps.{fuel_before}
use Rattle.dp_lean_region.specs.LeanEpoch.{LeanEpoch, epoch_marks, begin_in, size_in}

-- This much is left of the fuel before the epoch's n-th iteration, and in this memory the judging stands there. Where no site is checked,
-- nothing is compared with the memory, and any other may be held in its place.
pub record JudgingStands (e : LeanEpoch) (n spare : ℕ) (memory : List ℤ) : Type 0 where
  pub left : spare ≡ fuel_before (epoch_marks e) e.key n
  pub kept : List ℤ
  pub cells : LeanJudges e.key n kept
  pub same : SameWhereChecked e.key.program e.key.plan kept memory

-- These are the verdicts on the epoch's batch b, up to the first that doesn't go on, or behind which nothing came. Where memory was wanting
-- there may be one more than the batch has iterations.
pub record AreTold (e : LeanEpoch) (b : ℕ) (vs : List Verdict) : Type 0 where
  pub each : (i : ℕ) (v : Verdict) → slice_get vs i ≡ Some v → GoesOnTo e.key (begin_in e b + i) × SaysDecided e.key v (verdict_at e.key (begin_in e b + i))
  pub onward : (i : ℕ) (v : Verdict) → slice_get vs i ≡ Some v → suc i < length vs → goes_on_behind v ≡ true
  pub few : length vs ≤ suc (size_in e b)

-- the epoch goes on behind each of these
abbrev pub EachGoesOn : List Verdict → Type 0
EachGoesOn vs = (i : ℕ) (v : Verdict) → slice_get vs i ≡ Some v → goes_on_behind v ≡ true
