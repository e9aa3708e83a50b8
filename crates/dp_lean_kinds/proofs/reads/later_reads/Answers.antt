use Rattle.std.proofs.Common.{◌≡◌, ◌-◌, ◌<◌, arith}
use Rattle.dp_semantics.specs.Judge.{last}
use Rattle.dp_lean_kinds.specs.steps.Read.{stage_read}
use Rattle.dp_lean_kinds.proofs.ReadAppended.{stage_next, stages_over}
use Rattle.dp_lean_kinds.proofs.reads.later_reads.Goals as goal

pub loop-place-preserved : goal.loop-place-preserved
loop-place-preserved c =
    let here = c.loop-place-test.true in let many = c.in_ok-last.ensures.value in
    let below : c.loop-place.place < last c.args.plan.now = omega (arith, here, many) in
    stage_next (stage_read c.args.program.now c.args.plan.now c.args.tables.now) c.loop-place.reads _ _ c.loop-place.place (last c.args.plan.now) below
    c.in_ok-region.ensures c.loop-place.invariant

pub returns : goal.returns
returns c =
    let many = c.in_ok-last.ensures.value in
    let over : last c.args.plan.now - c.loop-place.place ≡ 0 = omega (arith, many) in
    stages_over (stage_read c.args.program.now c.args.plan.now c.args.tables.now) c.loop-place.reads _ c.loop-place.place (last c.args.plan.now) over
    c.loop-place.invariant
