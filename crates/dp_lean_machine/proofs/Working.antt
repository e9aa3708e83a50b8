-- A worker of a replicated stage, from the version that a batch brings.
use Rattle.dp_semantics.proofs.Names.{◌≡◌, refl, sym, ap, ◌∙◌, subst, ℕ, suc, ◌≤◌, true, List, ℤ, length, None, Some, is_replicated}
use Rattle.dp_net.specs.NetPackets.{NetStatus}
use Rattle.dp_lean_epoch.specs.LeanBatch.{IsVersion}
use Rattle.dp_lean_region.specs.LeanEpoch.{LeanEpoch, IsLeanEpoch, epoch_marks, begin_in}
use Rattle.dp_lean_machine.specs.Sent.{AsStatus, IsSent, SameTold}
use Rattle.dp_lean_machine.specs.RanFrom.{RanFrom}
use Rattle.dp_lean_machine.specs.declared.batch.BatchStatus.{BatchStatus}
use Rattle.dp_lean_machine.specs.declared.batch.LeanBatch.{LeanBatch}
use Rattle.dp_lean_machine.proofs.Passing.{same_sent}
use Rattle.dp_lean_machine.proofs.SentOn.{stands_so}

-- the batch that came, without its version, that which was made of it in a memory of the same cells, and what is sent
pub worker_sends : (e : LeanEpoch) (b place : ℕ) {M : Type 0} (cells : M → List ℤ) (memory after : M) (version : List ℤ)
    (came bare made sent : LeanBatch) → RanFrom e place b cells memory None bare made after → SameTold came bare → came.version ≡ Some version →
    cells memory ≡ version → SameTold made sent → sent.version ≡ made.version → (ends : NetStatus) → AsStatus came.status ends → IsLeanEpoch e →
    suc place ≤ length e.key.plan.stages → is_replicated e.key.plan (suc place) ≡ true → IsSent e place b came → IsSent e (suc place) b sent
worker_sends e b place cells memory after version came bare made sent ran same brings holds told kept ends like is within replicated begins =
    let item = stands_so e is place b within came came.version begins came.status begins.item ends like in
    let r = ran ends (subst (λ (x : BatchStatus). AsStatus x ends) (sym same.status) like) is within
    (subst (IsVersion (epoch_marks e) e.key (suc place) (begin_in e b)) (brings ∙ sym (ap Some holds)) (item.version replicated))
    (λ q. absurd (cc (sym (is.apart (suc place) replicated) ∙ q)))
    came.version
    (same_sent e place b came (record bare { version = came.version })
    (record { line = same.line; first = same.first; iterations = same.iterations; status = same.status; stages = same.stages }) refl begins) in
    same_sent e (suc place) b made sent told kept r.0
