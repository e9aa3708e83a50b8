-- A sequential stage from one batch to the next.
use Rattle.dp_semantics.proofs.Names.{◌≡◌, inl, inr, ◌⊎◌, ◌<◌, cases_lt, slice_get_past, is_par, Plan, sym, ap, ◌∙◌, subst, map, take, ◌≤◌, ℕ, suc, Bool, true}
use Rattle.dp_semantics.proofs.Names.{false, not, ◌||◌, List, ℤ, length, Option, is_replicated}
use Rattle.dp_net.specs.NetPackets.{NetStatus, NetGoing, NetClosing, NetVoid}
use Rattle.dp_lean_epoch.specs.Coming.{LeanStands}
use Rattle.dp_lean_epoch.specs.LeanBatch.{IsVersion, LeanItem, IsLeanBatch}
use Rattle.dp_lean_epoch.specs.Steps.{feeds_itself}
use Rattle.dp_lean_region.specs.LeanEpoch.{LeanEpoch, IsLeanEpoch, epoch_marks, kept_in, begin_in}
use Rattle.dp_lean_machine.specs.Sent.{AsStatus, IsSent, SameTold, Unless, item_sent}
use Rattle.dp_lean_machine.specs.Kept.{KeepsBase}
use Rattle.dp_lean_machine.specs.Standing.{KeepsMemory}
use Rattle.dp_lean_machine.specs.declared.machine.Kept.{Kept}
use Rattle.dp_lean_machine.specs.declared.machine.Kept.TheVariants.{Cells, Versioned, Nothing}
use Rattle.dp_lean_machine.specs.RanFrom.{RanFrom}
use Rattle.dp_lean_machine.specs.declared.batch.LeanBatch.{LeanBatch}
use Rattle.dp_lean_region.specs.Line.{IsLineOf}
use Rattle.dp_lean_machine.specs.Held.{held_in}
use Rattle.dp_lean_machine.specs.declared.batch.StageColumns.{StageColumns}
use Rattle.dp_lean_machine.specs.declared.batch.BatchStatus.{BatchStatus}
use Rattle.dp_lean_machine.specs.declared.batch.BatchStatus.TheVariants.{Going}
use Rattle.dp_lean_machine.specs.declared.batch.BatchStatus.TheVariants as status

pub goes_behind : (e : LeanEpoch) (b place : ℕ) {M : Type 0} (cells : M → List ℤ) (memory after : M) (version : Option (List ℤ)) (came out : LeanBatch) →
    RanFrom e place b cells memory version came out after → (ends : NetStatus) → AsStatus came.status ends → IsLeanEpoch e →
    suc place ≤ length e.key.plan.stages →
    is_replicated e.key.plan (suc place) ≡ false → LeanStands (epoch_marks e) e.key (suc place) (begin_in e b) (cells memory) →
    (is_replicated e.key.plan (suc (suc place)) ≡ true → IsVersion (epoch_marks e) e.key (suc (suc place)) (begin_in e b) version) → IsSent e place b came →
    IsSent e (suc place) b out × (out.status ≡ Going → LeanStands (epoch_marks e) e.key (suc place) (begin_in e (suc b)) (cells after))
goes_behind e b place cells memory after version came out ran ends like is within sequential stands version_is sent =
    let r = ran ends like is within stands version_is came.version sent in
    (r.0, λ goes. r.1 goes (ap (λ (q : Bool). not q || not (feeds_itself e.key.program e.key.plan (suc place))) sequential))

-- a batch that tells the same, with the same version, is sent too
pub same_sent : (e : LeanEpoch) (s b : ℕ) (x y : LeanBatch) → SameTold x y → y.version ≡ x.version → IsSent e s b x → IsSent e s b y
same_sent e s b x y same version sent = record {
  line = subst (IsLineOf e) (sym same.line) sent.line;
  first = same.first ∙ sent.first;
  item = subst (λ (z : BatchStatus). Unless z (λ (o : NetStatus). IsLeanBatch (epoch_marks e) e.key (kept_in e) e.cap s b (item_sent s o y))) (sym same.status)
      (by x.status sent.item);
}
  where
    item : List StageColumns → NetStatus → ℕ → Option (List ℤ) → LeanItem
    item stages ends many v = record { stages = map held_in (take s stages); stood = record { iterations = many; ends = ends }; version = v }

    is : (o : NetStatus) → item_sent s o x ≡ item_sent s o y
    is o = ap (λ (cs : List StageColumns). item cs o x.iterations x.version) (sym same.stages)
        ∙ ap (λ (i : ℕ). item y.stages o i x.version) (sym same.iterations)
        ∙ ap (item y.stages o y.iterations) (sym version)

    by : (z : BatchStatus) → Unless z (λ (o : NetStatus). IsLeanBatch (epoch_marks e) e.key (kept_in e) e.cap s b (item_sent s o x)) →
        Unless z (λ (o : NetStatus). IsLeanBatch (epoch_marks e) e.key (kept_in e) e.cap s b (item_sent s o y))
    by status.Going u = subst (IsLeanBatch (epoch_marks e) e.key (kept_in e) e.cap s b) (is NetGoing) u
    by status.Closing u = subst (IsLeanBatch (epoch_marks e) e.key (kept_in e) e.cap s b) (is NetClosing) u
    by status.Void u = subst (IsLeanBatch (epoch_marks e) e.key (kept_in e) e.cap s b) (is NetVoid) u
    by status.NoMemory u = tt

-- a replicated stage is one of the plan's
pub replicated_within : (plan : Plan) (s : ℕ) → is_replicated plan (suc s) ≡ true → suc s ≤ length plan.stages
replicated_within plan s q = by (cases_lt s (length plan.stages))
  where
    by : (s < length plan.stages) ⊎ (length plan.stages ≤ s) → suc s ≤ length plan.stages
    by (inl low) = low
    by (inr past) = absurd (cc (sym (ap is_par (slice_get_past plan.stages s past)) ∙ q))

-- what a stage keeps of the base, it keeps where the epoch begins
pub base_keeps : (e : LeanEpoch) (plan : Plan) (s : ℕ) (base : List ℤ) (kept : Kept) → e.key.plan ≡ plan → KeepsBase plan s base kept →
    LeanStands (epoch_marks e) e.key s 0 base → KeepsMemory e s 0 kept
base_keeps e plan s base (Cells cells) same k stands = (
  ap (λ (p : Plan). is_replicated p s) same ∙ k.0,
  ap (λ (p : Plan). is_replicated p (suc s)) same ∙ k.1,
  subst (LeanStands (epoch_marks e) e.key s
      0) (sym k.2) stands,
)
base_keeps e plan s base (Versioned both) same k stands = (
  ap (λ (p : Plan). is_replicated p s) same ∙ k.0,
  ap (λ (p : Plan). is_replicated p (suc s)) same ∙ k.1,
  subst (LeanStands (epoch_marks e) e.key s
      0) (sym k.2) stands,
)
base_keeps e plan s base Nothing same k stands = ap (λ (p : Plan). is_replicated p s) same ∙ k
