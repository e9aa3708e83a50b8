-- Another plan's epoch that is followed: its verdicts are taken for those of the region's own plan.
use Rattle.std.specs.Prelude.{◌≡◌, ℕ, ◌+◌, ◌<◌, ◌≤◌, List, [], ◌++◌, ℤ, false, None}
use Rattle.dp_plan.specs.declared.Plan.{Plan}
use Rattle.dp_semantics.specs.EpochKey.{EpochKey}
use Rattle.dp_meaning.specs.MachineState.{MachineState}
use Rattle.dp_commit.specs.CommittedState.{CommittedState}
use Rattle.dp_run_plan.specs.RunPlan.{RunsFor}
use Rattle.dp_epoch.specs.declared.account.Account.{Account}
use Rattle.dp_epoch.specs.declared.following.Followed.{Followed}
use Rattle.dp_epoch.specs.declared.following.Followed.TheVariants.{Committed, Left}
use Rattle.dp_epoch.specs.declared.ledger.Ledger.{Ledger}
use Rattle.dp_epoch.specs.Accounts.{told_when}
use Rattle.dp_epoch.specs.Applied.{HasRoomForVerdicts, steps_left}
use Rattle.dp_epoch.specs.InEpoch.{AtEpoch, InEpoch}
use Rattle.dp_epoch.specs.Prints.{prints_of, prints_to_come}
use Rattle.dp_epoch.specs.Progress.{Progress, report_before}

-- what a run under the plan would tell of the first n iterations, where causes aren't asked for
abbrev pub unlisted : Plan → MachineState → ℕ → Account
unlisted plan first n = record { report = told_when false (report_before plan first n); why = false; views = None }

-- n verdicts of the other plan's epoch were given, all Clean and none closing. Their iterations were committed, in a region of this plan.
pub record IsFollowed (plan : Plan) (key : EpochKey) (n : ℕ) (first : MachineState) (c : CommittedState) (account : Account) : Type 0 where
  pub progress : Progress plan first c account
  pub runs : RunsFor first.program plan key.plan
  pub other : InEpoch key n first c (unlisted key.plan first c.count)

-- where the region stands behind the verdict that came after n: where it isn't followed, a new epoch of the region's own plan may begin
abbrev pub StandsFollowed : Plan → EpochKey → ℕ → MachineState → CommittedState → Account → Followed → Type 0
StandsFollowed plan key n first c account Committed = IsFollowed plan key (n + 1) first c account
StandsFollowed plan key n first c account Left = AtEpoch plan first c account

-- what was committed of the prints of iteration i
abbrev pub printed_followed : Plan → MachineState → ℕ → Followed → List ℤ
printed_followed plan first i Committed = prints_of plan first i
printed_followed plan first i Left = []

-- The verdict after n of the other plan's epoch was taken, where a stage of the region's plan may have so many words: an iteration that is clean under both
-- plans
-- is committed and counted, and its prints wait; any other changes nothing.
pub record FollowsVerdict (words : ℕ) (key : EpochKey) (n : ℕ) (old new : Ledger) (followed : Followed) (tally tally_now : ℕ) : Type 0 where
  pub stands : (plan : Plan) (first : MachineState) → IsFollowed plan key n first old.committed old.account → words ≡ plan.words →
      StandsFollowed plan key n first new.committed new.account followed
  pub prints : (plan : Plan) (first : MachineState) → IsFollowed plan key n first old.committed old.account → words ≡ plan.words →
      new.waiting ≡ old.waiting ++ printed_followed plan first old.committed.count followed
  pub ahead : (plan : Plan) (first : MachineState) → IsFollowed plan key n first old.committed old.account → words ≡ plan.words →
      prints_to_come plan first old.waiting old.committed.count ≡ prints_to_come plan first new.waiting new.committed.count
  pub kept : followed ≡ Left → (new ≡ old) × (tally_now ≡ tally)
  pub report : new.account.report ≡ record old.account.report { iterations = new.committed.count }
  pub why : new.account.why ≡ old.account.why
  pub counted : tally_now + old.committed.count ≡ tally + new.committed.count
  pub room : HasRoomForVerdicts tally_now new.committed
  pub left : steps_left new.committed ≤ steps_left old.committed
  pub falls : followed ≡ Committed → steps_left new.committed < steps_left old.committed
