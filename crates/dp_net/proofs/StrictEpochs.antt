-- Behind clean judgements the packets of turns that break off at a wrong assumption are the definition's, and so is the next judgement.
use Rattle.dp_semantics.proofs.Names.{◌≡◌, ◌⊎◌, inl, inr, refl, sym, ap, ◌∙◌, subst, ℕ, zero, suc, ◌-◌, ◌<◌, ◌≤◌, true, false, List, ℤ, length, Option, Some}
use Rattle.dp_semantics.proofs.Names.{None, arith, slice_get, cases_eq, TurnEnd, stage_run, StageKind, Par, Seq, Status, Going, Closing, Broken, Packet, Passed}
use Rattle.dp_semantics.proofs.Names.{passed, passed_by, passed_on, run_on, at_kind, at_sequential, Epoch, cleared, Judgement, Agreed, Clean, Unclean, judge}
use Rattle.dp_semantics.specs.EpochKey.{EpochKey, epoch_of}
use Rattle.dp_semantics.specs.EpochVerdicts.{JudgeState, verdict_at, verdict_by, goes_on, state_at, judgement_of}
use Rattle.dp_semantics.proofs.PacketFacts.{live}
use Rattle.dp_semantics.proofs.Setting.{Accepted}
use Rattle.dp_net.proofs.Strict.{strict_run, strict_run_on, strict_sequential, strict_kind, strict_passed}
use Rattle.dp_net.proofs.StrictTurns.{SameOrOff, same_or_off}
use Rattle.dp_net.proofs.CleanPackets.{not_live, turn_kept, closing_left}

module _ (key : EpochKey) (ok : Accepted key.program key.plan) where
  open key use {program, plan, input}

  abbrev k : Epoch
  k = epoch_of key

  -- the judgements before the n-th are clean
  abbrev pub CleanTo : ℕ → Type 0
  CleanTo n = (i : ℕ) → i < n → (v : Agreed) × (judgement_of key i ≡ Clean v)

  pub clean_less : (i n : ℕ) → i ≤ n → CleanTo n → CleanTo i
  clean_less i n less c j low = c j (omega (arith, less, low))

  clean_with : (n : ℕ) → CleanTo n → (v : Agreed) → judgement_of key n ≡ Clean v → CleanTo (suc n)
  clean_with n c v clean i low = elim (cases_eq i n) [
    | inl same ↦ (v, ap (judgement_of key) same ∙ clean)
    | inr less ↦ c i (omega (arith, low, less))
  ]

  kept_at_run : (s n : ℕ) → s < length plan.stages → CleanTo (suc n) → (before : List ℤ) →
      passed k (suc s) n ≡ run_on k (suc s) before (passed k s n).packet →
      strict_run_on k (suc s) before (passed k s n).packet ≡ run_on k (suc s) before (passed k s n).packet
  kept_at_run s n high c before is = let r = c n (omega arith) in (turn_kept k ok n (key.fuel - (state_at key n).steps)
      (state_at key n).cells r.0 r.1 s high before is).same

  sequential_same : (s : ℕ) → s < length plan.stages → ((n : ℕ) → CleanTo (suc n) → strict_passed k s n ≡ passed k s n) →
      ((n : ℕ) → passed k (suc s) n ≡ at_sequential k (suc s) (passed k s) n) → (n : ℕ) → CleanTo (suc n) →
      strict_sequential k (suc s) (strict_passed k s) n ≡ at_sequential k (suc s) (passed k s) n
  sequential_same s high same is zero c = rw (same zero c) (kept_at_run s zero high c k.base (is zero))
  sequential_same s high same is (suc n) c =
      rw (same (suc n) c, sequential_same s high same is n (clean_less (suc n) (suc (suc n)) (omega arith) c))
      (kept_at_run s (suc n) high c (cleared k (at_sequential k (suc s) (passed k s) n).after) (is (suc n)))

  -- Through clean judgements the packets are the same.
  kind_same : (kind : Option StageKind) (s : ℕ) → s < length plan.stages → slice_get plan.stages s ≡ kind →
      ((n : ℕ) → CleanTo (suc n) → strict_passed k s n ≡ passed k s n) → (n : ℕ) → CleanTo (suc n) →
      strict_kind k kind (suc s) (strict_passed k s) n ≡ at_kind kind k (suc s) (passed k s) n
  kind_same (Some Par) s high is same n c = rw (same n c)
      (kept_at_run s n high c (passed k s n).before (ap (λ (o : Option StageKind). at_kind o k (suc s) (passed k s) n) is))
  kind_same (Some Seq) s high is same n c = sequential_same s high same (λ i. ap (λ (o : Option StageKind). at_kind o k (suc s) (passed k s) i) is) n c
  kind_same None s high is same n c = sequential_same s high same (λ i. ap (λ (o : Option StageKind). at_kind o k (suc s) (passed k s) i) is) n c

  packets_same : (s : ℕ) → s ≤ length plan.stages → (n : ℕ) → CleanTo (suc n) → strict_passed k s n ≡ passed k s n
  packets_same zero high n c = refl
  packets_same (suc s) high n c = kind_same (slice_get plan.stages s) s (omega (arith, high)) refl (packets_same s (omega (arith, high))) n c

  -- the packet is the definition's, or void
  abbrev SameOrVoid : Passed → Passed → Type 0
  SameOrVoid strict plain = (strict ≡ plain) ⊎ (live strict.packet.status ≡ false)

  run_or_void : (s : ℕ) (before : List ℤ) (came : Packet) → SameOrVoid (strict_run_on k s before came) (run_on k s before came)
  run_or_void s before came = by (same_or_off program plan input s _ _) came.status
    where
      by : SameOrOff program plan input s (strict_run program plan input s before came.lists) (stage_run program plan input s before came.lists) →
          (status : Status) →
          SameOrVoid (passed_on k s before came (strict_run program plan input s before came.lists) status)
          (passed_on k s before came (stage_run program plan input s before came.lists) status)
      by (inl e) status = inl (ap (λ (turn : TurnEnd). passed_on k s before came turn status) e)
      by (inr (why, e)) (Broken t what) = inl refl
      by (inr (why, e)) Going = inr (ap (λ (turn : TurnEnd). live (passed_by k s before came turn).packet.status) e)
      by (inr (why, e)) Closing = inr (ap (λ (turn : TurnEnd). live (passed_by k s before came turn).packet.status) e)

  stays_void : (s : ℕ) (before : List ℤ) (came : Packet) → live came.status ≡ false → live (strict_run_on k s before came).packet.status ≡ false
  stays_void s before came e = by came.status refl e
    where
      by : (status : Status) → came.status ≡ status → live status ≡ false →
          live (passed_on k s before came (strict_run program plan input s before came.lists) status).packet.status ≡ false
      by (Broken t why) is e = ap live is
      by Going is e = absurd (cc e)
      by Closing is e = absurd (cc e)

  from_came : (s : ℕ) (a b : Passed) (x y : List ℤ) → (a ≡ b → x ≡ y) → SameOrVoid a b → SameOrVoid (strict_run_on k s x a.packet) (run_on k s y b.packet)
  from_came s a b x y same (inl e) = subst (λ (c : Passed). SameOrVoid (strict_run_on k s x a.packet)
      (run_on k s y c.packet)) e (subst (λ (m : List ℤ). SameOrVoid (strict_run_on k s x a.packet) (run_on k s m a.packet)) (same e)
      (run_or_void s x a.packet))
  from_came s a b x y same (inr e) = inr (stays_void s x a.packet e)

  sent_or_void : (s : ℕ) → s ≤ length plan.stages → (n : ℕ) → CleanTo n → SameOrVoid (strict_passed k s n) (passed k s n)
  sent_or_void zero high n c = inl refl
  sent_or_void (suc s) high n c = by (slice_get plan.stages s) refl n c (sent_or_void s (omega (arith, high)) n c)
    where
      before_same : (kind : Option StageKind) → slice_get plan.stages s ≡ kind → (n : ℕ) → CleanTo (suc n) →
          strict_kind k kind (suc s) (strict_passed k s) n ≡ at_kind kind k (suc s) (passed k s) n
      before_same kind is n c = kind_same kind s (omega (arith, high)) is (packets_same s (omega (arith, high))) n c

      by : (kind : Option StageKind) → slice_get plan.stages s ≡ kind → (n : ℕ) → CleanTo n → SameOrVoid (strict_passed k s n) (passed k s n) →
          SameOrVoid (strict_kind k kind (suc s) (strict_passed k s) n) (at_kind kind k (suc s) (passed k s) n)
      by (Some Par) is n c came = from_came (suc s) (strict_passed k s n) (passed k s n)
          (strict_passed k s n).before (passed k s n).before (λ e. ap (λ (w : Passed). w.before) e) came
      by (Some Seq) is zero c came = from_came (suc s) (strict_passed k s zero) (passed k s zero) k.base k.base (λ e. refl) came
      by (Some Seq) is (suc n) c came = from_came (suc s) (strict_passed k s (suc n))
          (passed k s (suc n)) _ _ (λ e. ap (λ (w : Passed). cleared k w.after) (before_same (Some Seq) is n c)) came
      by None is zero c came = from_came (suc s) (strict_passed k s zero) (passed k s zero) k.base k.base (λ e. refl) came
      by None is (suc n) c came = from_came (suc s) (strict_passed k s (suc n))
          (passed k s (suc n)) _ _ (λ e. ap (λ (w : Passed). cleared k w.after) (before_same None is n c)) came

  abbrev pub strict_judgement : ℕ → JudgeState → Judgement
  strict_judgement n s = judge program plan (key.fuel - s.steps) s.cells (strict_passed k (length plan.stages) n).packet

  -- Behind clean judgements the next one is the same.
  pub judged_same : (n : ℕ) → CleanTo n → strict_judgement n (state_at key n) ≡ judgement_of key n
  judged_same n c = by (judgement_of key n) refl (sent_or_void (length plan.stages) (omega arith) n c)
    where
      by : (j : Judgement) → judgement_of key n ≡ j → SameOrVoid (strict_passed k (length plan.stages) n) (passed k (length plan.stages) n) →
          strict_judgement n (state_at key n) ≡ judgement_of key n
      by j is (inl e) = ap (λ (w : Passed). judge program plan (key.fuel - (state_at key n).steps) (state_at key n).cells w.packet) e
      by Unclean is (inr e) = not_live (strict_passed k (length plan.stages) n).packet.status _ e ∙ sym is
      by (Clean v) is (inr e) = ap (λ (w : Passed). judge program plan (key.fuel - (state_at key n).steps) (state_at key n).cells w.packet)
          (packets_same (length plan.stages) (omega arith) n
          (clean_with n c v is))

  -- .. and where it is clean, a packet that closes is judged to leave the region
  pub closes_there : (n : ℕ) → CleanTo n → (v : Agreed) → judgement_of key n ≡ Clean v →
      (strict_passed k (length plan.stages) n).packet.status ≡ Closing → v.closing ≡ true
  closes_there n c v clean e = closing_left k ok n (key.fuel - (state_at key n).steps) (state_at key n).cells v clean (length plan.stages) (omega arith)
      (ap (λ (w : Passed). w.packet.status) (sym (packets_same (length plan.stages) (omega arith) n (clean_with n c v clean))) ∙ e)

  -- verdicts that go on are clean judgements
  pub clean_to : (n : ℕ) → ((i : ℕ) → i < n → goes_on (verdict_at key i) ≡ true) → CleanTo n
  clean_to n goes i low = by (judgement_of key i) refl (goes i low)
    where
      by : (j : Judgement) → judgement_of key i ≡ j → goes_on (verdict_by key i j) ≡ true → (v : Agreed) × (judgement_of key i ≡ Clean v)
      by (Clean v) is e = (v, is)
      by Unclean is e = absurd (cc e)
