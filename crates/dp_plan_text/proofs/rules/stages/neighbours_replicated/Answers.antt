use Rattle.std.proofs.Common.{◌≡◌, ◌+◌, ◌-◌, arith}
use Rattle.dp_plan_text.proofs.StageLemmas.{no_neighbours}
use Rattle.dp_plan_text.proofs.rules.stages.neighbours_replicated.Goals as goal

pub returns : goal.returns
returns c =
    let l = c.loop-later in
    let next : (c.loop-later.later - 1) + 1 ≡ c.loop-later.later = omega (arith, l.auto.later) in
    no_neighbours c.args.lines.now (l.later - 1) l.later next c.loop-later-test.false l.invariant
