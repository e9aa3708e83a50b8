-- The last packet of a batch that ends early isn't judged to go on.
use Rattle.dp_net.proofs.ToldAlike.{SameVerdict}
use Rattle.dp_semantics.proofs.Names.{◌≡◌, refl, sym, ap, ◌∙◌, ℕ, Bool, true, false, not, length, Option, Some, None, Stmt, Judgement, Clean, Unclean, Status}
use Rattle.dp_semantics.proofs.Names.{Closing}
use Rattle.dp_semantics.specs.EpochKey.{EpochKey, epoch_of}
use Rattle.dp_semantics.specs.EpochVerdicts.{goes_on, judgement_of}
use Rattle.dp_semantics.proofs.Setting.{Accepted}
use Rattle.dp_net.specs.NetItems.{Marks}
use Rattle.dp_net.specs.NetPackets.{NetStatus, NetGoing, NetClosing, NetVoid, NetPacket, net_passed}
use Rattle.dp_net.specs.NetJudge.{NetAgreed, net_judge_status}
use Rattle.dp_net.specs.NetVerdicts.{net_verdict_at, net_verdict_by, net_judgement_of}
use Rattle.dp_net.specs.Batches.{is_onward, ends_batch}
use Rattle.dp_net.proofs.Strict.{strict_passed}
use Rattle.dp_net.proofs.StrictEpochs.{CleanTo, closes_there}
use Rattle.dp_net.proofs.Sent.{Quieted, SameStatus, both_going, both_closing, both_broken, sent_alike}
use Rattle.dp_net.proofs.EpochsAlike.{judgements_alike}

module _ (key : EpochKey) (ok : Accepted key.program key.plan) {m : Marks} {test : Stmt → Bool} (q : Quieted (epoch_of key) m test) where
  open key use {program, plan}

  -- where nothing may be committed the epoch ends
  none_ends : (n : ℕ) (o : Option NetAgreed) → net_judgement_of m key n ≡ o → o ≡ None → goes_on (net_verdict_at m key n) ≡ false
  none_ends n o is none = ap (λ (j : Option NetAgreed). goes_on (net_verdict_by m key n j)) (is ∙ none)

  closing_ends : (n : ℕ) (c : CleanTo key ok n) → (strict_passed (epoch_of key) (length plan.stages) n).packet.status ≡ Closing →
      (j : Judgement) (o : Option NetAgreed) → judgement_of key n ≡ j → SameVerdict program plan m j o → goes_on (net_verdict_by m key n o) ≡ false
  closing_ends n c status (Clean a) (Some b) is same = ap not (same.closing ∙ closes_there key ok n c a is status)
  closing_ends n c status Unclean None is same = refl
  closing_ends n c status (Clean a) None is same = absurd same
  closing_ends n c status Unclean (Some b) is same = absurd same

  pub ends_there : (n : ℕ) → CleanTo key ok n → ends_batch (net_passed m (epoch_of key) (length plan.stages) n).packet ≡ true →
      goes_on (net_verdict_at m key n) ≡ false
  ends_there n c e = by packet.status refl (let sent = sent_alike q (length plan.stages) n in sent.packet.status) e
    where
      packet : NetPacket
      packet = (net_passed m (epoch_of key) (length plan.stages) n).packet

      by : (status : NetStatus) → packet.status ≡ status →
          SameStatus (strict_passed (epoch_of key) (length plan.stages) n).packet.status packet.status → ends_batch packet ≡ true →
          goes_on (net_verdict_at m key n) ≡ false
      by NetGoing is same e = let clash : false ≡ true = sym (ap (λ (status : NetStatus). not (is_onward status)) is) ∙ e in absurd (cc clash)
      by NetVoid is same e = none_ends n (net_judgement_of m key n) refl (ap (net_judge_status program plan _) is)
      by NetClosing is same e = closing_ends n c (closing_is same is) (judgement_of key n) (net_judgement_of m key n) refl (judgements_alike key ok q n c)
        where
          closing_is : {a : Status} {b : NetStatus} → SameStatus a b → b ≡ NetClosing → a ≡ Closing
          closing_is both_going e = absurd (cc e)
          closing_is both_closing e = refl
          closing_is (both_broken s why) e = absurd (cc e)
