-- Where a stage and the try-commit unit stand in an epoch.
use Rattle.std.specs.Prelude.{◌≡◌, ◌≤◌, ℕ, ◌-◌, true, length, Option, Some, None}
use Rattle.dp_plan.specs.Access.{is_replicated}
use Rattle.dp_relay.specs.UnitsKey.{UnitsKey}
use Rattle.dp_lean_machine.specs.declared.machine.LeanMachine.{LeanMachine}
use Rattle.dp_lean_machine.specs.Standing.{MachineStands}
use Rattle.dp_judge.specs.declared.court.LeanCourt.{LeanCourt}
use Rattle.dp_judge.specs.Judging.{Judges}
use Rattle.dp_pipeline.specs.Carried.{lean_of}
use Rattle.dp_pipeline.specs.declared.staged.Staged.{Staged}
use Rattle.dp_pipeline.specs.declared.judge.Judge.{Judge}

-- the machine takes the batch at this place next; that of a replicated stage takes any
abbrev pub StandsForBatch : LeanMachine → UnitsKey → Option ℕ → Type 0
StandsForBatch m key (Some b) = MachineStands m (lean_of key) b
StandsForBatch m key None = (is_replicated key.epoch.plan m.stage ≡ true) × ((b : ℕ) → MachineStands m (lean_of key) b)

-- It is stage s of the epoch, and stands at this place.
pub record RunsAt (x : Staged) (key : UnitsKey) (s : ℕ) (place : Option ℕ) : Type 0 where
  pub stage : x.machine.stage ≡ s
  pub fuel : x.fuel ≡ key.epoch.fuel
  pub stands : StandsForBatch x.machine key place

-- the batch at this place is judged next
abbrev pub JudgesFor : LeanCourt → UnitsKey → Option ℕ → Type 0
JudgesFor t key (Some b) = Judges t (lean_of key) b
JudgesFor t key None = ⊥

-- It comes after the last stage of the epoch, and stands at this place.
pub record JudgesAt (x : Judge) (key : UnitsKey) (s : ℕ) (place : Option ℕ) : Type 0 where
  pub before : s - 1 ≡ length key.epoch.plan.stages
  pub stands : JudgesFor x.court key place
  pub few : key.epoch.fuel ≤ 1000000000
