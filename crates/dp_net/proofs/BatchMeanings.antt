-- The end of a batch's verdict tells the verdicts on its iterations.
use Rattle.dp_semantics.proofs.Names.{◌≡◌, refl, sym, ap, ◌∙◌, subst, arith, ℕ, zero, suc, ◌+◌, Bool, true, false, not, if◌then◌else◌, List, ◌∷◌, map}
use Rattle.dp_semantics.proofs.Names.{numbers_from}
use Rattle.dp_base.specs.declared.Cause.{Cause as ReportedCause}
use Rattle.dp_semantics.specs.EpochKey.{EpochKey}
use Rattle.dp_semantics.specs.EpochVerdicts.{Carried, Verdict, Commit, Again, goes_on, verdict_at}
use Rattle.dp_net.specs.NetVerdicts.{GoesOnTo}
use Rattle.dp_net.specs.Batches.{BatchGoesOn, BatchCloses, BatchRecovers, BatchVerdict, nothing_but, with_front, together, batch_begin, batch_size}
use Rattle.dp_net.specs.BatchMeaning.{BatchMeans, BatchesMean}
use Rattle.dp_net.proofs.BatchVerdicts.{goes_further}

onward_closes : BatchGoesOn ≡ BatchCloses → ⊥
onward_closes e = absurd (cc e)

onward_recovers : (cause : ReportedCause) → BatchGoesOn ≡ BatchRecovers cause → ⊥
onward_recovers cause e = absurd (cc e)

closes_onward : BatchCloses ≡ BatchGoesOn → ⊥
closes_onward e = absurd (cc e)

closes_recovers : (cause : ReportedCause) → BatchCloses ≡ BatchRecovers cause → ⊥
closes_recovers cause e = absurd (cc e)

recovers_onward : (cause : ReportedCause) → BatchRecovers cause ≡ BatchGoesOn → ⊥
recovers_onward cause e = absurd (cc e)

recovers_closes : (cause : ReportedCause) → BatchRecovers cause ≡ BatchCloses → ⊥
recovers_closes cause e = absurd (cc e)

same_cause : (a b : ReportedCause) → BatchRecovers a ≡ BatchRecovers b → a ≡ b
same_cause a b e = cc e

module _ (key : EpochKey) where
  here : (k : ℕ) → k ≡ k + 0
  here k = omega arith

  none_goes : (k : ℕ) → GoesOnTo key k → BatchMeans key k 0 (nothing_but BatchGoesOn)
  none_goes k before = record {
    goes = λ e. (refl, subst (GoesOnTo key) (here k) before);
    closes = λ e. absurd (onward_closes e);
    recovers = λ cause e. absurd (onward_recovers cause e);
  }

  one_recovers : (k n : ℕ) (cause : ReportedCause) → GoesOnTo key k → verdict_at key k ≡ Again cause → BatchMeans key k n (nothing_but (BatchRecovers cause))
  one_recovers k n cause before is = record {
    goes = λ e. absurd (recovers_onward cause e);
    closes = λ e. absurd (recovers_closes cause e);
    recovers = λ other e. (subst (GoesOnTo key) (here k) before, ap (verdict_at key) (sym (here k)) ∙ is ∙ ap Again (same_cause cause other e));
  }

  one_closes : (k n : ℕ) (w : Carried) → GoesOnTo key k → verdict_at key k ≡ Commit w → w.closing ≡ true →
      BatchMeans key k n (with_front w (nothing_but BatchCloses))
  one_closes k n w before is closing = record {
    goes = λ e. absurd (closes_onward e);
    closes = λ e. (0, w, refl, subst (GoesOnTo key) (here k) before, ap (verdict_at key) (sym (here k)) ∙ is, closing);
    recovers = λ cause e. absurd (closes_recovers cause e);
  }

  further : (k n : ℕ) → (k + 1) + n ≡ k + suc n
  further k n = omega arith

  front_means : (k n : ℕ) (w : Carried) (v : BatchVerdict) → BatchMeans key (k + 1) n v → BatchMeans key k (suc n) (with_front w v)
  front_means k n w v rest = record {
    goes = λ e. let r = rest.goes e in (ap suc r.0, subst (GoesOnTo key) (further k n) r.1);
    closes = λ e. let r = rest.closes e in
        (suc r.0, r.1, ap suc r.2, subst (GoesOnTo key) (further k r.0) r.3, ap (verdict_at key) (sym (further k r.0)) ∙ r.4, r.5);
    recovers = λ cause e. let r = rest.recovers cause e in
        (subst (GoesOnTo key) (further k v.iterations) r.0, ap (verdict_at key) (sym (further k v.iterations)) ∙ r.1);
  }

  together_means : (n k : ℕ) → GoesOnTo key k → BatchMeans key k n (together (map (verdict_at key) (numbers_from k n)))
  together_means zero k before = none_goes k before
  together_means (suc n) k before = by (verdict_at key k) refl (λ on. together_means n (k + 1) (goes_further key k before on))
    where
      rest : List Verdict
      rest = map (verdict_at key) (numbers_from (k + 1) n)

      by_closing : (w : Carried) → verdict_at key k ≡ Commit w → (c : Bool) → w.closing ≡ c → (c ≡ false → BatchMeans key (k + 1) n (together rest)) →
          BatchMeans key k (suc n) (with_front w (if c then nothing_but BatchCloses else together rest))
      by_closing w is true e go = one_closes k (suc n) w before is e
      by_closing w is false e go = front_means k n w (together rest) (go refl)

      by : (v : Verdict) → verdict_at key k ≡ v → (goes_on (verdict_at key k) ≡ true → BatchMeans key (k + 1) n (together rest)) →
          BatchMeans key k (suc n) (together (v ∷ rest))
      by (Commit w) is go = by_closing w is w.closing refl (λ still. go (ap goes_on is ∙ ap not still))
      by (Again cause) is go = one_recovers k (suc n) cause before is

pub batches_mean : BatchesMean
batches_mean key cap b before = together_means key (batch_size key cap b) (batch_begin key cap b) before
