use Rattle.std.proofs.Common.{◌∙◌, ◌-◌, ap, length, arith}
use Rattle.dp_view.proofs.StageLemmas.{shared-length, all_shared}
use Rattle.dp_view.proofs.shares.share_all.Goals as goal

pub returns : goal.returns
returns c near =
    let size = shared-length c.args.plan.now c.args.cells.now (c.loop-place.place - 1) c.args.views.now in
    let same = ap length c.loop-place.invariant.views in
    c.loop-place.invariant.views
    ∙ all_shared c.args.plan.now c.args.cells.now c.args.views.now near (c.loop-place.place - 1)
    (omega (arith, c.loop-place-test.false, c.loop-place.invariant.low, size, same))
