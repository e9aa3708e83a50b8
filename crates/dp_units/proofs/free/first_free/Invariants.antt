use Rattle.dp_units.proofs.FreeLemmas.{AreFree}
use Rattle.dp_units.proofs.free.first_free.Given as goal

abbrev pub invariant-loop-node : goal.invariant-loop-node
invariant-loop-node l = AreFree l.leader_of l.waits l.free.keys l.node
