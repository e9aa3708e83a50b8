use Rattle.std.proofs.Common.{◌≡◌, ◌+◌, ◌<◌, ap, ◌∙◌, arith, length}
use Rattle.dp_lean_code.specs.Known.{paying_marks}
use Rattle.dp_lean_code.proofs.NeedLists.{number_next}
use Rattle.dp_lean_kinds.specs.ColumnKinds.{region_kinds}
use Rattle.dp_lean_region.proofs.kinds.plan_kinds.Goals as goal

pub loop-place-preserved : goal.loop-place-preserved
loop-place-preserved c =
    let p = c.args.program.now in let plan = c.args.plan.now in
    let many = c.in_ok-count.ensures in let here = c.loop-place-test.true in
    let below : c.loop-place.place < length plan.stages = omega (arith, here, many) in
    let from : c.loop-place.place + 1 ≡ 1 + c.loop-place.place = omega arith in
    number_next (region_kinds p plan (paying_marks p plan)) c.loop-place.rows _ _ _ 1 c.loop-place.place (length plan.stages) below
    (c.in_ok-row.ensures ∙ ap (region_kinds p plan (paying_marks p plan)) from) c.in_ok-push.ensures.ok c.loop-place.invariant
