-- One verdict of an epoch, and what it led to.
use Rattle.std.specs.Prelude.{◌≡◌, ℕ, ◌+◌, ◌<◌, ◌≤◌, List, [], ◌++◌, ℤ}
use Rattle.dp_plan.specs.declared.Plan.{Plan}
use Rattle.dp_semantics.specs.EpochKey.{EpochKey}
use Rattle.dp_meaning.specs.MachineState.{MachineState}
use Rattle.dp_commit.specs.CommittedState.{CommittedState}
use Rattle.dp_epoch.specs.declared.account.Account.{Account}
use Rattle.dp_epoch.specs.declared.ends.RegionEnd.TheVariants as region_end
use Rattle.dp_epoch.specs.declared.ledger.Ledger.{Ledger}
use Rattle.dp_epoch.specs.declared.taken.Taken.{Taken}
use Rattle.dp_epoch.specs.declared.taken.Taken.TheVariants.{Committed, Closed, Unclean}
use Rattle.dp_epoch.specs.Applied.{HasRoomForVerdicts, steps_left}
use Rattle.dp_epoch.specs.InEpoch.{InEpoch, IsUnclean}
use Rattle.dp_epoch.specs.Prints.{prints_of, prints_to_come}
use Rattle.dp_epoch.specs.Progress.{RegionDone}

-- where the region stands behind the verdict that came after n of its epoch
abbrev pub StandsBehindVerdict : EpochKey → ℕ → MachineState → CommittedState → Account → Taken → Type 0
StandsBehindVerdict key n first c account Committed = InEpoch key (n + 1) first c account
StandsBehindVerdict key n first c account Closed = RegionDone key.plan first c account region_end.Closed
StandsBehindVerdict key n first c account Unclean = IsUnclean key.plan first c account

-- what was committed of the prints of iteration i
abbrev pub prints_committed : Plan → MachineState → ℕ → Taken → List ℤ
prints_committed plan first i Committed = prints_of plan first i
prints_committed plan first i Closed = prints_of plan first i
prints_committed plan first i Unclean = []

-- what is still to be written behind it
abbrev pub left_behind_it : Plan → MachineState → List ℤ → ℕ → Taken → List ℤ
left_behind_it plan first waiting i Committed = prints_to_come plan first waiting i
left_behind_it plan first waiting i Closed = waiting
left_behind_it plan first waiting i Unclean = prints_to_come plan first waiting i

-- The verdict after n of the epoch was taken: a clean iteration is committed and counted, and its prints wait; any other changes nothing.
pub record TakesVerdict (key : EpochKey) (n : ℕ) (old new : Ledger) (taken : Taken) (tally tally_now : ℕ) : Type 0 where
  pub stands : (first : MachineState) → InEpoch key n first old.committed old.account → StandsBehindVerdict key n first new.committed new.account taken
  pub prints : (first : MachineState) → InEpoch key n first old.committed old.account → new.waiting ≡ old.waiting ++ prints_committed key.plan first
      old.committed.count taken
  pub ahead : (first : MachineState) → InEpoch key n first old.committed old.account →
      prints_to_come key.plan first old.waiting old.committed.count ≡ left_behind_it key.plan first new.waiting new.committed.count taken
  pub kept : taken ≡ Unclean → (new ≡ old) × (tally_now ≡ tally)
  pub report : new.account.report ≡ record old.account.report { iterations = new.committed.count }
  pub why : new.account.why ≡ old.account.why
  pub counted : tally_now + old.committed.count ≡ tally + new.committed.count
  pub room : HasRoomForVerdicts tally_now new.committed
  pub left : steps_left new.committed ≤ steps_left old.committed
  pub falls : taken ≡ Committed → steps_left new.committed < steps_left old.committed
