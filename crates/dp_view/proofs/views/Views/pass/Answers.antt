use Rattle.std.proofs.Common.{refl}
use Rattle.dp_view.proofs.KeptLemmas.{grows_by, grows_not, kept_more, kept_passed}
use Rattle.dp_view.proofs.views.Views.pass.Goals as goal

pub invariant_of-self-in_err-mark_effect-2 : goal.invariant_of-self-in_err-mark_effect-2
invariant_of-self-in_err-mark_effect-2 c =
    kept_more c.self.invariant c.self.inside.counts c.mark_effect.new.self c.mark_effect-2.new.self refl
    (grows_by c.args.effect c.self.inside.stored c.mark_effect.new.self c.in_ok-mark_effect.ensures.ok)
    (grows_not c.self.inside.since c.mark_effect-2.new.self c.in_err-mark_effect-2.ensures.err)

pub invariant_of-self-2 : goal.invariant_of-self-2
invariant_of-self-2 c =
    kept_passed c.self.invariant c.args.effect c.make.new.cells c.mark_effect.new.self c.mark_effect-2.new.self c.make.ensures c.in_ok-mark_effect.ensures.ok
    c.in_ok-mark_effect-2.ensures.ok
