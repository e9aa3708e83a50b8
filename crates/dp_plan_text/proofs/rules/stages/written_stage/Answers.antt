use Rattle.std.proofs.Common.{List, sym, ap, ◌∙◌}
use Rattle.dp_plan.specs.Written.{has, stage_from}
use Rattle.dp_plan.specs.declared.WrittenStage.{WrittenStage}
use Rattle.dp_plan_text.proofs.StageLemmas.{stage_here, stage_later}
use Rattle.dp_plan_text.proofs.rules.stages.written_stage.Goals as goal

pub returns-then-contains : goal.returns-then-contains
returns-then-contains c =
    let lines = c.as_slice-lines.result.now in let site = c.args.site in
    stage_here lines c.loop-place.place site (stage_from 1 lines site) c.index-lines-place.result c.loop-place-test.true c.index-lines-place.is
    c.loop-place.invariant
    (ap (λ (l : WrittenStage). has site l.sites) c.index-lines-place.is ∙ ap (has site) (sym c.as_slice.ensures) ∙ sym c.contains.ensures.value
    ∙ c.if-contains.true)
    ∙ ap (λ (l : List WrittenStage). stage_from 1 l site) c.as_slice-lines.ensures

pub loop-place-preserved : goal.loop-place-preserved
loop-place-preserved c =
    let lines = c.as_slice-lines.result.now in let site = c.args.site in
    stage_later lines c.loop-place.place site (stage_from 1 lines site) c.index-lines-place.result c.loop-place-test.true c.index-lines-place.is
    c.loop-place.invariant
    (ap (λ (l : WrittenStage). has site l.sites) c.index-lines-place.is ∙ ap (has site) (sym c.as_slice.ensures) ∙ sym c.contains.ensures.value
    ∙ c.if-contains.false)
