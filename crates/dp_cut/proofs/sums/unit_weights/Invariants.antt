use Rattle.std.proofs.Common.{◌≡◌, ◌++◌, ◌-◌, map}
use Rattle.dp_tree.specs.Numbering.{numbers_from}
use Rattle.dp_cut.specs.LeastPlan as spec
use Rattle.dp_cut.proofs.sums.unit_weights.Given as goal

abbrev pub invariant-loop-place : goal.invariant-loop-place
invariant-loop-place l =
    l.units ++ map (spec.unit_weight l.places l.weights) (numbers_from l.place (l.count - l.place)) ≡ spec.unit_weights l.count l.places l.weights
