use Rattle.std.proofs.Common.{◌≡◌, ◌++◌, drop, map}
use Rattle.dp_cut.specs.LeastPlan as spec
use Rattle.dp_cut.proofs.plan.kinds_of.Given as goal

abbrev pub invariant-loop-stretch : goal.invariant-loop-stretch
invariant-loop-stretch l = l.kinds ++ map spec.stretch_kind (drop l.stretch-index l.cut) ≡ map spec.stretch_kind l.cut
