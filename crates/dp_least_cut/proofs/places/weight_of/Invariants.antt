use Rattle.std.proofs.Common.{◌≡◌}
use Rattle.dp_least_cut.specs.Allowed.{weight_between}
use Rattle.dp_least_cut.proofs.places.weight_of.Given as goal

abbrev pub invariant-loop-unit : goal.invariant-loop-unit
invariant-loop-unit l = l.weight ≡ weight_between l.weights l.begin l.unit
