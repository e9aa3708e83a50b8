use Rattle.std.proofs.Common.{◌≡◌, ◌+◌, ◌-◌, arith}
use Rattle.dp_plan_text.proofs.OrderLemmas.{again_found, again_none}
use Rattle.dp_plan_text.proofs.least.least_repeated.Goals as goal

pub returns-then-ascending-later : goal.returns-then-ascending-later
returns-then-ascending-later c =
    let l = c.loop-later in
    let next : (c.loop-later.later - 1) + 1 ≡ c.loop-later.later = omega (arith, l.auto.later) in
    again_found c.args.ascending.now c.requires (l.later - 1) l.later next l.invariant c.loop-later-test.true c.if-ascending-later.true

pub returns : goal.returns
returns c =
    let l = c.loop-later in
    let next : (c.loop-later.later - 1) + 1 ≡ c.loop-later.later = omega (arith, l.auto.later) in
    again_none c.args.ascending.now c.requires (l.later - 1) l.later next l.invariant c.loop-later-test.false
