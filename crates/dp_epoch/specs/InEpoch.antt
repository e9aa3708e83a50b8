-- An epoch under way: the verdicts so far were Clean, and their iterations are committed.
use Rattle.std.specs.Prelude.{◌≡◌, ◌⊎◌, ℕ, ◌+◌, ◌<◌, true, List, ℤ, Option, Some, None}
use Rattle.dp_plan.specs.declared.Plan.{Plan}
use Rattle.dp_tree.specs.declared.Program.{Program}
use Rattle.dp_tree.specs.GoesOn.{GoesOnAs}
use Rattle.dp_tree.specs.Iteration.{start, memory_after}
use Rattle.dp_semantics.specs.Recovery.{epoch, is_recovered}
use Rattle.dp_semantics.specs.EpochKey.{EpochKey, epoch_run}
use Rattle.dp_semantics.specs.EpochVerdicts.{goes_on, state_at, verdict_at}
use Rattle.dp_semantics.specs.Verdict.{CleanSince}
use Rattle.dp_run_plan.specs.RunPlan.{hides_nothing}
use Rattle.dp_meaning.specs.MachineState.{MachineState}
use Rattle.dp_commit.specs.CommittedState.{CommittedState, region_run, steps_of_first}
use Rattle.dp_judge.specs.declared.verdict.Verdict.TheVariants.{NoMemory}
use Rattle.dp_pipeline.specs.Coming.{Coming}
use Rattle.dp_epoch.specs.declared.account.Account.{Account}
use Rattle.dp_epoch.specs.declared.ends.EpochEnd.{EpochEnd}
use Rattle.dp_epoch.specs.declared.ends.EpochEnd.TheVariants.{Closed, Left, Unclean}
use Rattle.dp_epoch.specs.declared.ends.RegionEnd.{RegionEnd}
use Rattle.dp_epoch.specs.declared.ends.RegionEnd.TheVariants as region_end
use Rattle.dp_epoch.specs.Prints.{prints_to_come}
use Rattle.dp_epoch.specs.Progress.{Progress, RegionDone}

-- the key is that of the region's program, input and fuel
pub record IsKeyOf (key : EpochKey) (first : MachineState) : Type 0 where
  pub program : key.program ≡ first.program
  pub input : key.input ≡ first.input
  pub fuel : key.fuel ≡ first.fuel

-- n verdicts of the epoch were given, all Clean and none closing. Their iterations were committed, and the judging stands where the memory does.
pub record InEpoch (key : EpochKey) (n : ℕ) (first : MachineState) (c : CommittedState) (account : Account) : Type 0 where
  pub progress : Progress key.plan first c account
  pub key_is : IsKeyOf key first
  pub base : key.base ≡ memory_after (region_run first) key.plan.region key.first
  -- the region's own run goes on from the epoch's first iteration as the epoch's own run
  pub own : GoesOnAs key.plan.region key.first (steps_of_first (region_run first) key.plan.region key.first) (region_run first) (epoch_run key)
  pub at_once : start (epoch_run key) key.plan.region 0 ≡ Some 0
  pub place : c.count ≡ key.first + n
  pub since : CleanSince first.program key.plan (region_run first) key.first c.count
  -- the region's epochs begin one here, or it makes no difference where an epoch begins
  pub begun : (epoch first.program key.plan (region_run first) c.count ≡ key.first) ⊎ (hides_nothing first.program key.plan ≡ true)
  pub state : state_at key n ≡ record { cells = c.machine.config.cells; steps = c.machine.steps }
  pub gone : (j : ℕ) → j < n → goes_on (verdict_at key j) ≡ true

-- The next iteration is to be executed again.
pub record IsUnclean (plan : Plan) (first : MachineState) (c : CommittedState) (account : Account) : Type 0 where
  pub progress : Progress plan first c account
  pub again : is_recovered first.program plan (region_run first) c.count ≡ true

-- A new epoch may begin: the region goes on, and the next iteration is the first of its epoch, or any may be.
pub record AtEpoch (plan : Plan) (first : MachineState) (c : CommittedState) (account : Account) : Type 0 where
  pub progress : Progress plan first c account
  pub fresh : (epoch first.program plan (region_run first) c.count ≡ c.count) ⊎ (hides_nothing first.program plan ≡ true)

-- how the epoch ends: the region is closed, the next iteration is to be executed again, or a new epoch may begin
abbrev pub EpochEnds : Plan → MachineState → CommittedState → Account → EpochEnd → Type 0
EpochEnds plan first c account Closed = RegionDone plan first c account region_end.Closed
EpochEnds plan first c account Unclean = IsUnclean plan first c account
EpochEnds plan first c account Left = AtEpoch plan first c account

-- what is left to be written at the epoch's end
abbrev pub left_by_epoch : Plan → MachineState → List ℤ → ℕ → EpochEnd → List ℤ
left_by_epoch plan first waiting n Closed = waiting
left_by_epoch plan first waiting n Unclean = prints_to_come plan first waiting n
left_by_epoch plan first waiting n Left = prints_to_come plan first waiting n

-- .. in a run of this program on this input
pub record ToBegin (p : Program) (plan : Plan) (input : List ℤ) (first : MachineState) (c : CommittedState) (account : Account) : Type 0 where
  pub at_epoch : AtEpoch plan first c account
  pub program_is : first.program ≡ p
  pub input_is : first.input ≡ input

-- the verdicts of the epoch that begins behind what is committed, of which none was given
pub record BeginsAt (key : EpochKey) (given : ℕ) (c : CommittedState) : Type 0 where
  pub first : key.first ≡ c.count
  pub base : key.base ≡ c.machine.config.cells
  pub steps : key.steps ≡ c.machine.steps
  pub fuel : key.fuel ≡ c.machine.fuel
  pub none : given ≡ 0

-- what the verdicts depend on of the epoch that begins behind what is committed, in a run of this program on this input
abbrev pub key_here : Program → Plan → List ℤ → CommittedState → EpochKey
key_here p plan input c =
    record { program = p; plan = plan; input = input; first = c.count; base = c.machine.config.cells; steps = c.machine.steps; fuel = c.machine.fuel }

-- what comes of an epoch that depends on this, and of which no verdict was given
abbrev pub none_given : EpochKey → Coming
none_given key = record { key = key; given = 0; last = NoMemory }

-- how the re-execution of the iteration that broke an epoch comes out: a new epoch is to begin, or the region has ended
abbrev pub AfterRecovery : Plan → MachineState → CommittedState → Account → Option RegionEnd → Type 0
AfterRecovery plan first c account None = AtEpoch plan first c account
AfterRecovery plan first c account (Some end) = RegionDone plan first c account end

-- .. and what is left to be written then
abbrev pub left_by_recovery : Plan → MachineState → List ℤ → ℕ → Option RegionEnd → List ℤ
left_by_recovery plan first waiting n None = prints_to_come plan first waiting n
left_by_recovery plan first waiting n (Some end) = waiting
