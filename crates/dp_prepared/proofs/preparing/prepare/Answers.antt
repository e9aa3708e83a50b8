use Rattle.std.proofs.Common.{refl, arith}
use Rattle.std.proofs.lemmas.Option.{slice_get_read}
use Rattle.dp_prepared.proofs.Plans.{planned_at}
use Rattle.dp_prepared.proofs.preparing.prepare.Goals as goal

pub new-requires : goal.new-requires
new-requires c =
    let plans = c.args.plans.now in
    let at = slice_get_read plans _ c.loop-plan.plan-index c.plan-item.result refl (omega arith) c.plan-item.is in
    record { planned = planned_at c.args.program.now c.requires.inlined plans c.loop-plan.plan-index c.plan-item.result c.requires.plans at }
