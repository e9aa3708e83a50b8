use Rattle.std.proofs.Common.{◌≡◌, ◌+◌, drop}
use Rattle.dp_cut.specs.LeastPlan as spec
use Rattle.dp_cut.proofs.sums.weight_at.Given as goal

abbrev pub invariant-loop-node : goal.invariant-loop-node
invariant-loop-node l = l.total + spec.unit_weight (drop l.node l.places) (drop l.node l.weights) l.place ≡ spec.unit_weight l.places l.weights l.place
