-- What is done between two recoveries: iterations are followed by another plan's epoch, and an epoch of the plan itself is run.
use Rattle.std.specs.Prelude.{◌≡◌, ℕ, ◌+◌, ◌≤◌, List, Option, Result, IfOk}
use Rattle.dp_plan.specs.declared.Plan.{Plan}
use Rattle.dp_meaning.specs.MachineState.{MachineState}
use Rattle.dp_epoch.specs.declared.ends.EpochEnd.{EpochEnd}
use Rattle.dp_epoch.specs.declared.ends.EpochEnd.TheVariants.{Closed, Left, Unclean}
use Rattle.dp_edge.specs.declared.writing.WriteFail.{WriteFail}
use Rattle.dp_epoch.specs.declared.ledger.Ledger.{Ledger}
use Rattle.dp_epoch.specs.Applied.{HasRoomForVerdicts, steps_left}
use Rattle.dp_edge.specs.Writing.{FaultsAfter}
use Rattle.dp_epoch.specs.InEpoch.{EpochEnds, left_by_epoch}
use Rattle.dp_epoch.specs.Prints.{prints_to_come}
use Rattle.dp_crew.specs.Output.{Streams}

-- What was done behind this ledger, in each run of which `begun` holds: how the region stands then, what was written, what is reported, and what is counted.
pub record HasRun {X : Type 0} (after : X → Ledger) (end : X → EpochEnd) (begun : MachineState → Type 0) (plan : Plan) (ledger : Ledger)
    (result : Result X WriteFail) (faults faults_now : ℕ) (told tells : Option (List ℕ)) (tally tally_now : ℕ) : Type 0 where
  pub faults_are : FaultsAfter result faults faults_now
  pub ends : IfOk result (λ (r : X). (first : MachineState) → begun first → EpochEnds plan first (after r).committed (after r).account (end r))
  pub streams : (first : MachineState) → begun first → Streams result (prints_to_come plan first ledger.waiting ledger.committed.count)
      (λ (r : X). left_by_epoch plan first (after r).waiting (after r).committed.count (end r)) told tells
  pub report : IfOk result (λ (r : X). (after r).account.report ≡ record ledger.account.report { iterations = (after r).committed.count })
  pub why : IfOk result (λ (r : X). (after r).account.why ≡ ledger.account.why)
  pub counted : IfOk result (λ (r : X). tally_now + ledger.committed.count ≡ tally + (after r).committed.count)
  pub room : IfOk result (λ (r : X). HasRoomForVerdicts tally_now (after r).committed)
  pub left : IfOk result (λ (r : X). steps_left (after r).committed ≤ steps_left ledger.committed)

-- one epoch, from where it begins to its end: the commit unit takes its verdicts
abbrev pub EpochRan : (MachineState → Type 0) → Plan → Ledger → Result (Ledger × EpochEnd) WriteFail → ℕ → ℕ → Option (List ℕ) →
    Option (List ℕ) → ℕ → ℕ → Type 0
EpochRan begun plan ledger result faults faults_now told tells tally tally_now =
    HasRun (λ (r : Ledger × EpochEnd). r.0) (λ (r : Ledger × EpochEnd). r.1) begun plan ledger result faults faults_now told tells tally tally_now

-- iterations that were followed: an epoch of the plan may begin behind them
abbrev pub HasFollowed : (MachineState → Type 0) → Plan → Ledger → Result Ledger WriteFail → ℕ → ℕ → Option (List ℕ) → Option (List ℕ) → ℕ → ℕ → Type 0
HasFollowed begun plan ledger result faults faults_now told tells tally tally_now =
    HasRun (λ (l : Ledger). l) (λ (l : Ledger). Left) begun plan ledger result faults faults_now told tells tally tally_now

-- so many iterations at least were committed in an epoch that ended so
abbrev pub made_at_least : EpochEnd → ℕ
made_at_least Closed = 0
made_at_least Unclean = 0
made_at_least Left = 1
