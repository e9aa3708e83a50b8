-- The verdicts on a batch, when all are decided.
use Rattle.dp_semantics.proofs.Names.{◌≡◌, sym, ap, ◌∙◌, subst, append-nil, arith, ℕ, ◌+◌, ◌++◌, true, false, List, [], ◌∷◌, ℤ, length}
use Rattle.dp_base.specs.declared.Cause.{Cause}
use Rattle.dp_semantics.specs.EpochVerdicts.{Again, verdict_at}
use Rattle.dp_net.specs.NetVerdicts.{GoesOnTo}
use Rattle.dp_judge.specs.Told.{SaysDecided}
use Rattle.dp_judge.specs.declared.verdict.Verdict.{Verdict}
use Rattle.dp_judge.specs.declared.verdict.Verdict.TheVariants.{Unclean, NoMemory}
use Rattle.dp_lean_region.specs.LeanEpoch.{LeanEpoch, begin_in, size_in}
use Rattle.dp_lean_machine.specs.declared.batch.BatchStatus.{BatchStatus}
use Rattle.dp_lean_machine.specs.declared.batch.BatchStatus.TheVariants as status
use Rattle.dp_judge.specs.Decided.{end_verdicts}
use Rattle.dp_judge.specs.Verdicts.{JudgingStands, AreTold, EachGoesOn}
use Rattle.dp_judge.specs.steps.Within.{CleanTo, CameTo}
use Rattle.dp_judge.specs.steps.Deciding.{end_of_decision}
use Rattle.dp_judge.specs.declared.judging.Decision.{Decision}
use Rattle.dp_judge.specs.declared.judging.Decision.TheVariants as decision
use Rattle.dp_judge.specs.declared.told.ToldEnd.{ToldEnd}
use Rattle.dp_judge.specs.declared.told.ToldEnd.TheVariants as ends
use Rattle.dp_judge.proofs.Telling.{told_more, last_there}

module _ (e : LeanEpoch) (b n : ℕ) where
  -- how the last of the batch's iterations stands: all are told of, or the next one is to be executed again
  abbrev pub AsLeft : BatchStatus → Type 0
  AsLeft status.Going = n ≡ size_in e b
  AsLeft status.Closing = Unit {0}
  AsLeft status.Void = GoesOnTo e.key (begin_in e b + n) → (cause : Cause) × (Again cause ≡ verdict_at e.key (begin_in e b + n))
  AsLeft status.NoMemory = Unit {0}

  module _ (left : ℕ) (cells : List ℤ) (told : List Verdict) where
    -- all that is to be told, and where the judging stands then
    pub record Concludes (s : BatchStatus) (end : ToldEnd) : Type 0 where
      pub verdicts : AreTold e b (told ++ end_verdicts end)
      pub stands : JudgingStands e (begin_in e b + length told) left cells
      pub next : s ≡ status.Going → EachGoesOn (told ++ end_verdicts end) → (length (told ++ end_verdicts end) ≡ size_in e b)
          × GoesOnTo e.key (begin_in e b + size_in e b)
          × JudgingStands e (begin_in e b + size_in e b) left cells

    -- with one behind which none follows
    with_last : (place : ℕ) → CleanTo e b place left cells told → (v : Verdict) → SaysDecided e.key v (verdict_at e.key (begin_in e b + place)) →
        AreTold e b (told ++ v ∷ [])
    with_last place clean v says =
        told_more e b told clean.told clean.onward (let few = clean.few in let count = clean.count in omega (arith, few, count))
        (subst (λ (i : ℕ). GoesOnTo e.key (begin_in e b + i)) (sym clean.count) clean.goes) v
        (subst (λ (i : ℕ). SaysDecided e.key v (verdict_at e.key (begin_in e b + i))) (sym clean.count) says)

    stands_then : (place : ℕ) → CleanTo e b place left cells told → JudgingStands e (begin_in e b + length told) left cells
    stands_then place clean = subst (λ (i : ℕ). JudgingStands e (begin_in e b + i) left cells) (sym clean.count) clean.stands

    unclean : (s : BatchStatus) (place : ℕ) → CleanTo e b place left cells told → (cause : Cause) × (Again cause ≡ verdict_at e.key (begin_in e b + place)) →
        Concludes s ends.Unclean
    unclean s place clean again = record {
      verdicts = with_last place clean Unclean again;
      stands = stands_then place clean;
      next = λ goes all. (let no : false ≡ true = all (length told) Unclean (last_there told Unclean) in absurd (cc no));
    }

    wanting : (s : BatchStatus) (place : ℕ) → CleanTo e b place left cells told → Concludes s ends.NoMemory
    wanting s place clean = record {
      verdicts = with_last place clean NoMemory tt;
      stands = stands_then place clean;
      next = λ goes all. (let no : false ≡ true = all (length told) NoMemory (last_there told NoMemory) in absurd (cc no));
    }

    over : (s : BatchStatus) → (s ≡ status.Going → n ≡ size_in e b) → CleanTo e b n left cells told → Concludes s ends.Over
    over s whole clean = record {
      verdicts = subst (AreTold e b) (sym (append-nil told)) clean.told;
      stands = stands_then n clean;
      next = λ goes all. (
        ap length (append-nil told) ∙ clean.count ∙ whole goes,
        subst (λ (i : ℕ). GoesOnTo e.key (begin_in e b + i)) (whole goes) clean.goes,
        subst (λ (i : ℕ). JudgingStands e (begin_in e b + i) left cells) (whole goes) clean.stands,
      );
    }

    pub concludes : (s : BatchStatus) → AsLeft s → (d : Decision) → CameTo e b n d left cells told → Concludes s (end_of_decision d s)
    concludes status.Going whole decision.Goes came = over status.Going (λ goes. whole) came
    concludes status.Closing rest decision.Goes came = over status.Closing (λ goes. absurd (cc goes)) came
    concludes status.Void again decision.Goes came = unclean status.Void n came (again came.goes)
    concludes status.NoMemory rest decision.Goes came = wanting status.NoMemory n came
    concludes s rest decision.Closes came = record {
      verdicts = subst (AreTold e b) (sym (append-nil told)) came.told;
      stands = came.stands;
      next = λ goes all. absurd (came.closes (subst EachGoesOn (append-nil told) all));
    }
    concludes s rest decision.Unclean came = unclean s came.place came.clean came.again
    concludes s rest decision.NoMemory came = wanting s came.0 came.1
