use Rattle.std.proofs.Common.{ℕ, length, refl, sym, ◌∙◌, subst}
use Rattle.dp_lean_region.specs.LeanEpoch.{LeanEpoch}
use Rattle.dp_lean_machine.specs.declared.batch.LeanBatch.{LeanBatch}
use Rattle.dp_lean_machine.specs.Sent.{IsSent}
use Rattle.dp_judge.specs.Judging.{Judges, GivesVerdicts}
use Rattle.dp_pipeline.specs.Carried.{is_over}
use Rattle.dp_pipeline.specs.declared.judge.Judge.{Judge}
use Rattle.dp_pipeline.specs.declared.judged.Judged.{Judged}
use Rattle.dp_pipeline.proofs.Telling.{batch_told, judges_next}
use Rattle.dp_pipeline.proofs.judge.JudgeStageCarriedJudged.run.Goals as goal

pub returns : goal.returns
returns g c = λ key s place n stands at came.
    let x = c.args.self.now in
    let new : Judge = record { court = c.judge.new.self } in
    let made : Judged = record { told = c.judge.new.told; batch = c.args.item.batch } in
    let gives = subst (λ (batch : LeanBatch). (e : LeanEpoch) (b : ℕ) → Judges x.court e b → IsSent e (length e.key.plan.stages) b batch →
    GivesVerdicts c.judge.new.self e b batch.status c.judge.new.told) c.get.ensures c.judge.ensures.gives in
    let last = c.is_last_told-last.ensures ∙ (λ i. is_over (record { told = c.get-3.ensures i; batch = c.get-2.ensures i })) in (
      batch_told x new c.args.item made key s place n stands at came refl gives,
      last,
      λ e. judges_next x new c.args.item made key s place n stands at came refl gives (sym last ∙ e),
    )
