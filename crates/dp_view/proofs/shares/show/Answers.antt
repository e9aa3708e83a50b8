use Rattle.std.proofs.Common.{◌∙◌, ap, length, arith}
use Rattle.dp_view.specs.Viewed.{effect_of}
use Rattle.dp_view.proofs.StageLemmas.{changed-length, shown_at, shown_all}
use Rattle.dp_view.proofs.shares.show.Goals as goal

pub returns : goal.returns
returns c =
    let size = changed-length (shown_at c.args.stage (effect_of c.args.effect)) c.loop-place.place c.args.views.now in
    let same = ap length c.loop-place.invariant in
    c.loop-place.invariant
    ∙ shown_all c.args.stage (effect_of c.args.effect) c.loop-place.place c.args.views.now (omega (arith, c.loop-place-test.false, size, same))
