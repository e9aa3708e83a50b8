-- The memories with which a stage begins its iterations.
use Rattle.dp_semantics.proofs.Names.{◌≡◌, refl, ◌∙◌, subst, ℕ, zero, suc, true, false, ℤ, List, Option, Some, None, slice_get, is_par, is_replicated}
use Rattle.dp_semantics.proofs.Names.{StageKind, Par, Seq, Epoch, cleared}
use Rattle.dp_semantics.specs.EpochKey.{EpochKey, epoch_of}
use Rattle.dp_net.specs.NetItems.{Marks}
use Rattle.dp_net.specs.NetPackets.{NetPassed, net_passed, net_at_kind, net_at_sequential}
use Rattle.dp_lean.specs.Laws.{AgreesOn}
use Rattle.dp_lean_epoch.specs.Own.{at_stage}
use Rattle.dp_lean_epoch.specs.Laws.{EpochBegins}
use Rattle.dp_lean_epoch.proofs.Arriving.{before_is}

module _ (m : Marks) (key : EpochKey) where
  abbrev k : Epoch
  k = epoch_of key

  open key use {program, plan}

  kind_next : (kind : Option StageKind) (s : ℕ) (came : ℕ → NetPassed) (n : ℕ) → is_par kind ≡ false →
      (net_at_kind m k kind s came (suc n)).before ≡ cleared k (net_at_kind m k kind s came n).after
  kind_next (Some Par) s came n e = absurd (cc e)
  kind_next (Some Seq) s came n e = before_is m key s (cleared k (net_at_sequential m k s came n).after) (came (suc n)).packet
  kind_next None s came n e = before_is m key s (cleared k (net_at_sequential m k s came n).after) (came (suc n)).packet

  kind_workers : (kind : Option StageKind) (s : ℕ) (came : ℕ → NetPassed) (n : ℕ) → is_par kind ≡ true →
      (net_at_kind m k kind s came n).before ≡ (came n).before
  kind_workers (Some Par) s came n e = before_is m key s (came n).before (came n).packet
  kind_workers (Some Seq) s came n e = absurd (cc e)
  kind_workers None s came n e = absurd (cc e)

  kind_first : (kind : Option StageKind) (s : ℕ) (came : ℕ → NetPassed) → (came 0).before ≡ k.base → (net_at_kind m k kind s came 0).before ≡ k.base
  kind_first (Some Par) s came e = before_is m key s (came 0).before (came 0).packet ∙ e
  kind_first (Some Seq) s came e = before_is m key s k.base (came 0).packet
  kind_first None s came e = before_is m key s k.base (came 0).packet

  -- A sequential stage goes on with its own memory, and a worker begins with that of the stage before it.
  pub next_alone : (s n : ℕ) → is_replicated plan (suc s) ≡ false → (at_stage m key (suc s) (suc n)).before ≡ cleared k (at_stage m key (suc s) n).after
  next_alone s n e = kind_next (slice_get plan.stages s) (suc s) (net_passed m k s) n e

  pub workers_before : (s n : ℕ) → is_replicated plan (suc s) ≡ true → (at_stage m key (suc s) n).before ≡ (at_stage m key s n).before
  workers_before s n e = kind_workers (slice_get plan.stages s) (suc s) (net_passed m k s) n e

  first_before : (s : ℕ) → (at_stage m key s 0).before ≡ k.base
  first_before zero = refl
  first_before (suc s) = kind_first (slice_get plan.stages s) (suc s) (net_passed m k s) (first_before s)

  same_agrees : (s : ℕ) (a b : List ℤ) → a ≡ b → AgreesOn program plan s a b
  same_agrees s a b e = subst (λ (c : List ℤ). AgreesOn program plan s a c) e (record { size = refl; same = λ x c w i. refl })

  pub epoch_begins : EpochBegins m key
  epoch_begins = record {
    stages = λ s. same_agrees s (at_stage m key s 0).before key.base
        (first_before s);
    judge = record { size = refl; same = λ x c w i. refl };
  }
