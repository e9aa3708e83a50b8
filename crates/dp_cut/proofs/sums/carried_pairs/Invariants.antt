use Rattle.std.proofs.Common.{◌≡◌, ◌++◌, drop}
use Rattle.dp_cut.specs.LeastPlan as spec
use Rattle.dp_cut.proofs.sums.carried_pairs.Given as goal

abbrev pub invariant-loop-edge : goal.invariant-loop-edge
invariant-loop-edge l = l.pairs ++ spec.carried_pairs l.places l.first (drop l.edge-index l.edges) ≡ spec.carried_pairs l.places l.first l.edges
