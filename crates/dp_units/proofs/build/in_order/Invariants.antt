use Rattle.dp_units.specs.steps.Taking.{IsTaking, left_over}
use Rattle.dp_units.proofs.build.in_order.Given as goal

abbrev pub invariant-loop-node : goal.invariant-loop-node
invariant-loop-node l = IsTaking l.count l.graph.edges.now l.leader_of l.between.items l.place_of.items l.order.items l.waits.items l.free.keys

abbrev pub decreases-loop-node : goal.decreases-loop-node
decreases-loop-node l = left_over l.count l.place_of.items
