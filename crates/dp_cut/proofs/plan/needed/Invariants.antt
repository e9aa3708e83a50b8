use Rattle.std.proofs.Common.{◌≡◌, ◌++◌, drop, filter}
use Rattle.dp_cut.specs.LeastPlan as spec
use Rattle.dp_cut.proofs.plan.needed.Given as goal

abbrev pub invariant-loop-outcome : goal.invariant-loop-outcome
invariant-loop-outcome l =
    l.assume ++ filter (spec.must_assume l.stages l.first l.nodes) (drop l.outcome-index l.chosen) ≡ filter (spec.must_assume l.stages l.first l.nodes) l.chosen
