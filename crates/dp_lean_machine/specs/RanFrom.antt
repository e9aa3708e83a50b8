-- What a stage sends of a batch that it begins with a memory.
use Rattle.std.specs.Prelude.{◌≡◌, ◌≤◌, ℕ, suc, true, List, ℤ, length, Option}
use Rattle.dp_plan.specs.Access.{is_replicated}
use Rattle.dp_net.specs.NetPackets.{NetStatus}
use Rattle.dp_lean_epoch.specs.Coming.{LeanStands}
use Rattle.dp_lean_epoch.specs.LeanBatch.{IsVersion}
use Rattle.dp_lean_epoch.specs.Steps.{keeps_memory}
use Rattle.dp_lean_region.specs.LeanEpoch.{LeanEpoch, IsLeanEpoch, epoch_marks, begin_in}
use Rattle.dp_lean_machine.specs.Sent.{AsStatus, IsSent}
use Rattle.dp_lean_machine.specs.declared.batch.LeanBatch.{LeanBatch}
use Rattle.dp_lean_machine.specs.declared.batch.BatchStatus.TheVariants.{Going}

-- Memory wasn't wanting for the batch that came, and its version may be taken out. Where the stage at this place stands in the memory,
-- and the version is one for the next stage's workers, what is sent is its batch b, and where that goes on the stage stands in the memory behind it.
abbrev pub RanFrom : LeanEpoch → ℕ → ℕ → {M : Type 0} → (M → List ℤ) → M → Option (List ℤ) → LeanBatch → LeanBatch → M → Type 0
RanFrom e s b cells memory version came sent after =
    (ends : NetStatus) → AsStatus came.status ends → IsLeanEpoch e → suc s ≤ length e.key.plan.stages →
    LeanStands (epoch_marks e) e.key (suc s) (begin_in e b) (cells memory) →
    (is_replicated e.key.plan (suc (suc s)) ≡ true → IsVersion (epoch_marks e) e.key (suc (suc s)) (begin_in e b) version) →
    (taken : Option (List ℤ)) → IsSent e s b (record came { version = taken }) →
    IsSent e (suc s) b sent
    × (sent.status ≡ Going → keeps_memory e.key.program e.key.plan (suc s) ≡ true →
    LeanStands (epoch_marks e) e.key (suc s) (begin_in e (suc b)) (cells after))
