use Rattle.std.proofs.Common.{◌≡◌, ◌≤◌, false}
use Rattle.dp_lane.specs.declared.rule.View.TheVariants.{Sender}
use Rattle.dp_bench.proofs.through_lane.send_all.Given as goal

abbrev pub invariant-loop : goal.invariant-loop
invariant-loop g l = (l.to.view ≡ Sender 0 l.sent false) × (l.sent ≤ l.count)
