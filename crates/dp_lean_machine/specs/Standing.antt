-- Where a stage's machine stands, and what it sends.
use Rattle.std.specs.Prelude.{◌≡◌, ◌≤◌, ◌<◌, ℕ, suc, true, false, length}
use Rattle.dp_plan.specs.Access.{is_replicated}
use Rattle.dp_lean_epoch.specs.Coming.{LeanStands}
use Rattle.dp_lean_region.specs.LeanEpoch.{LeanEpoch, IsLeanEpoch, epoch_marks, begin_in}
use Rattle.dp_lean_machine.specs.Sent.{IsSent}
use Rattle.dp_lean_machine.specs.declared.batch.LeanBatch.{LeanBatch}
use Rattle.dp_lean_machine.specs.declared.batch.BatchStatus.TheVariants.{Going}
use Rattle.dp_lean_machine.specs.declared.machine.Kept.{Kept}
use Rattle.dp_lean_machine.specs.declared.machine.Kept.TheVariants.{Cells, Versioned, Nothing}
use Rattle.dp_lean_machine.specs.declared.machine.LeanMachine.{LeanMachine}

module _ (e : LeanEpoch) where
  -- A sequential stage keeps a memory in which it stands at this iteration, with a version where a replicated stage follows. A replicated one keeps nothing.
  abbrev pub KeepsMemory : ℕ → ℕ → Kept → Type 0
  KeepsMemory s n (Cells cells) = (is_replicated e.key.plan s ≡ false) × (is_replicated e.key.plan (suc s) ≡ false) × LeanStands (epoch_marks e) e.key s n cells
  KeepsMemory s n (Versioned both) =
      (is_replicated e.key.plan s ≡ false) × (is_replicated e.key.plan (suc s) ≡ true) × LeanStands (epoch_marks e) e.key s n both
  KeepsMemory s n Nothing = is_replicated e.key.plan s ≡ true

-- Stage s, which keeps this, takes the epoch's batch b next. A replicated one may take any.
pub record TakesNext (s : ℕ) (kept : Kept) (e : LeanEpoch) (b : ℕ) : Type 0 where
  pub epoch : IsLeanEpoch e
  pub some : 0 < s
  pub within : s ≤ length e.key.plan.stages
  pub keeps : KeepsMemory e s (begin_in e b) kept

-- .. and so does its machine
abbrev pub MachineStands : LeanMachine → LeanEpoch → ℕ → Type 0
MachineStands m e b = TakesNext m.stage m.kept e b

-- What is sent is the stage's batch b, and the machine stands at the next one, where that goes on. Or memory was wanting.
pub record Passes (m : LeanMachine) (e : LeanEpoch) (b : ℕ) (sent : LeanBatch) : Type 0 where
  pub is : IsSent e m.stage b sent
  pub next : sent.status ≡ Going → MachineStands m e (suc b)
