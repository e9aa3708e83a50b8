use Rattle.std.proofs.Common.{◌≡◌, drop}
use Rattle.dp_cut.specs.LeastPlan as spec
use Rattle.dp_cut.proofs.plan.is_needed.Given as goal

abbrev pub invariant-loop-node : goal.invariant-loop-node
invariant-loop-node l = spec.must_assume l.stages l.first (drop l.node-index l.nodes) l.outcome ≡ spec.must_assume l.stages l.first l.nodes l.outcome
