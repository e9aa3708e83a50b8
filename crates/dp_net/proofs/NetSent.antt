-- What a stage sends for an iteration is what its turn from some memory makes of what came; and a packet that doesn't go on stays so.
use Rattle.dp_semantics.proofs.Names.{◌≡◌, refl, sym, ap, ◌∙◌, ℕ, zero, suc, true, false, not, List, ℤ, Option, Some, None, slice_get, StageKind, Par, Seq}
use Rattle.dp_semantics.proofs.Names.{Epoch, cleared}
use Rattle.dp_net.specs.NetItems.{Marks}
use Rattle.dp_net.specs.NetRun.{NetEnded, net_run}
use Rattle.dp_net.specs.NetPackets.{NetStatus, NetGoing, NetClosing, NetVoid, NetPacket, NetPassed, net_passed, net_passed_on, net_run_on, net_at_kind}
use Rattle.dp_net.specs.NetPackets.{net_at_sequential}
use Rattle.dp_semantics.specs.EpochKey.{epoch_of}
use Rattle.dp_net.specs.BatchItems.{EndsStay}
use Rattle.dp_net.specs.Batches.{is_onward, ends_batch}

module _ (m : Marks) (k : Epoch) where
  -- a stage runs from some memory on what comes to it
  pub runs_from : (kind : Option StageKind) (s : ℕ) (came : ℕ → NetPassed) (n : ℕ) →
      (before : List ℤ) × (net_at_kind m k kind s came n ≡ net_run_on m k s before (came n).packet)
  runs_from (Some Par) s came n = ((came n).before, refl)
  runs_from (Some Seq) s came zero = (k.base, refl)
  runs_from (Some Seq) s came (suc n) = (cleared k (net_at_sequential m k s came n).after, refl)
  runs_from None s came zero = (k.base, refl)
  runs_from None s came (suc n) = (cleared k (net_at_sequential m k s came n).after, refl)

  run_ends : (s : ℕ) (before : List ℤ) (came : NetPacket) → ends_batch came ≡ true → ends_batch (net_run_on m k s before came).packet ≡ true
  run_ends s before came ends = by came.status refl (net_run k.program k.plan m k.input s before came.lists)
    where
      by : (status : NetStatus) → came.status ≡ status → (turn : Option NetEnded) → ends_batch (net_passed_on m k s before came turn status).packet ≡ true
      by NetVoid is turn = ends
      by NetClosing is (Some f) = rw is refl
      by NetClosing is None = refl
      by NetGoing is turn = let clash : false ≡ true = sym (ap (λ (status : NetStatus). not (is_onward status)) is) ∙ ends in absurd (cc clash)

  -- What doesn't go on for a stage doesn't for the next one.
  pub ends_stay : (s n : ℕ) → ends_batch (net_passed m k s n).packet ≡ true → ends_batch (net_passed m k (suc s) n).packet ≡ true
  ends_stay s n ends =
      let run = runs_from (slice_get k.plan.stages s) (suc s) (net_passed m k s) n in
      ap (λ (w : NetPassed). ends_batch w.packet) run.1 ∙ run_ends (suc s) run.0 (net_passed m k s n).packet ends

pub ends_stay_so : EndsStay
ends_stay_so m key s n off = ends_stay m (epoch_of key) s n off
