use Rattle.std.proofs.Common.{◌≡◌, ◌≤◌}
use Rattle.dp_lane.specs.declared.rule.View.TheVariants.{Taker}
use Rattle.dp_bench.proofs.through_lane.take_all.Given as goal

abbrev pub invariant-loop : goal.invariant-loop
invariant-loop g l = (l.from.view ≡ Taker 0 l.taken) × (l.taken ≤ l.count)
