use Rattle.dp_units.specs.Graph.{AreWithin}
use Rattle.dp_whole_plan.proofs.joined.Sites.joined.Given as goal

abbrev pub invariant-loop-edge : goal.invariant-loop-edge
invariant-loop-edge l = AreWithin l.self.count l.pairs

abbrev pub invariant-loop-node : goal.invariant-loop-node
invariant-loop-node l = AreWithin l.self.count l.pairs
