-- How iterations stand at a stage, by how they stand at the one before.
use Rattle.dp_semantics.proofs.Names.{◌≡◌, inl, inr, refl, ap, ◌∙◌, arith, ℕ, suc, ◌+◌, ◌<◌, ◌≤◌, ◌⊎◌, true, false, cases_lt, if◌then◌else◌}
use Rattle.dp_net.specs.NetItems.{Marks}
use Rattle.dp_net.specs.NetPackets.{NetStatus, NetGoing, NetClosing, NetVoid, net_status_of}
use Rattle.dp_net.specs.Follows.{is_void}
use Rattle.dp_semantics.specs.EpochKey.{EpochKey}
use Rattle.dp_lean_epoch.specs.Own.{at_stage, Arrives}
use Rattle.dp_lean_epoch.specs.LeanBatch.{Stood, IterationsStand}
use Rattle.dp_lean_epoch.specs.Steps.{VoidStays}

pub still : (x : NetStatus) → net_status_of x false ≡ x
still NetGoing = refl
still NetClosing = refl
still NetVoid = refl

pub closed : (x : NetStatus) → is_void x ≡ false → net_status_of x true ≡ NetClosing
closed NetGoing alive = refl
closed NetClosing alive = refl
closed NetVoid alive = absurd (cc alive)

alive_at_end : (x : NetStatus) → is_void (if is_void x then NetGoing else x) ≡ false
alive_at_end NetGoing = refl
alive_at_end NetClosing = refl
alive_at_end NetVoid = refl

module _ (m : Marks) (key : EpochKey) (s k r : ℕ) (came : Stood) (stands : IterationsStand m key s k r came) where
  -- each iteration that came arrives
  pub arrives : (j : ℕ) → j < came.iterations → Arrives m key s (k + j)
  arrives j low = by (cases_lt (suc j) came.iterations)
    where
      by : (suc j < came.iterations) ⊎ (came.iterations ≤ suc j) → Arrives m key s (k + j)
      by (inl more) = ap is_void (stands.going j more)
      by (inr none) = ap is_void (stands.at_end j (omega (arith, low, none))) ∙ alive_at_end came.ends

  abbrev PassesOn : ℕ → Type 0
  PassesOn i = (at_stage m key (suc s) (k + i)).packet.status ≡ (at_stage m key s (k + i)).packet.status

  -- the one behind these closes
  pub closing : (j : ℕ) → j < came.iterations → ((i : ℕ) → i < j → PassesOn i) → (at_stage m key (suc s) (k + j)).packet.status ≡ NetClosing →
      IterationsStand m key (suc s) k r (record { iterations = suc j; ends = NetClosing })
  closing j low same closes = record {
    within = let most = stands.within in omega (arith, low, most);
    going = λ i more. same i (omega (arith, more)) ∙ stands.going i (omega (arith, more, low));
    at_end = λ i is. (let here : i ≡ j = omega (arith, is) in ap (λ (n : ℕ). (at_stage m key (suc s) (k + n)).packet.status) here ∙ closes);
    whole = λ q. absurd (cc q);
    closing = λ q. omega arith;
    void = λ q. absurd (cc q);
  }

  -- .. or is void
  pub voided : (j : ℕ) → j < came.iterations → ((i : ℕ) → i < j → PassesOn i) → (at_stage m key (suc s) (k + j)).packet.status ≡ NetVoid →
      IterationsStand m key (suc s) k r (record { iterations = j; ends = NetVoid })
  voided j low same void = record {
    within = let most = stands.within in omega (arith, low, most);
    going = λ i more. same i (omega (arith, more)) ∙ stands.going i (omega (arith, more, low));
    at_end = λ i is. same i (omega (arith, is)) ∙ stands.going i (omega (arith, is, low));
    whole = λ q. absurd (cc q);
    closing = λ q. absurd (cc q);
    void = λ q. (let most = stands.within in omega (arith, low, most), void);
  }

  -- all go as they came
  pub alike : VoidStays m key → ((i : ℕ) → i < came.iterations → PassesOn i) → IterationsStand m key (suc s) k r came
  alike voids same = record {
    within = stands.within;
    going = λ i more. same i (omega (arith, more)) ∙ stands.going i more;
    at_end = λ i is. same i (omega (arith, is)) ∙ stands.at_end i is;
    whole = stands.whole;
    closing = stands.closing;
    void = λ q. (let v = stands.void q in (v.0, voids s (k + came.iterations) v.1));
  }
