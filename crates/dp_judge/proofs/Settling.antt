-- What is told of a batch in the end.
use Rattle.dp_semantics.proofs.Names.{◌≡◌, sym, ap, ◌∙◌, subst, ℕ, ◌+◌, ◌++◌, List, length}
use Rattle.dp_judge.specs.declared.verdict.Verdict.{Verdict}
use Rattle.dp_lean_region.specs.LeanEpoch.{LeanEpoch, begin_in}
use Rattle.dp_lean_machine.specs.declared.batch.BatchStatus.{BatchStatus}
use Rattle.dp_judge.specs.Decided.{cleans, end_verdicts, left_to_give}
use Rattle.dp_judge.specs.Verdicts.{JudgingStands, AreTold, EachGoesOn}
use Rattle.dp_judge.specs.Judging.{Judges, GivesVerdicts}
use Rattle.dp_judge.specs.declared.court.LeanCourt.{LeanCourt}
use Rattle.dp_judge.specs.declared.told.ToldBatch.{ToldBatch}
use Rattle.dp_judge.specs.declared.told.ToldEnd.{ToldEnd}
use Rattle.dp_judge.proofs.Concluding.{Concludes}

pub settles : (e : LeanEpoch) (b n : ℕ) (court new : LeanCourt) → Judges court e b → (s : BatchStatus) (end : ToldEnd) (before t : ToldBatch) →
    cleans t ≡ cleans before → left_to_give t ≡ cleans before ++ end_verdicts end → Concludes e b n new.bench.left new.bench.cells (cleans before) s end →
    GivesVerdicts new e b s t
settles e b n court new at s end before t same left done = record {
  told = subst (AreTold e b) (sym left) done.verdicts;
  stands = subst (λ (vs : List Verdict). JudgingStands e (begin_in e b + length vs) new.bench.left new.bench.cells) (sym same) done.stands;
  next = λ goes all. (let then_next = done.next goes (subst EachGoesOn left all) in (
    ap length left ∙ then_next.0,
    record { epoch = at.epoch; laws = at.laws; goes = then_next.1; stands = then_next.2 },
  ));
}
