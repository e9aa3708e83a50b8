use Rattle.std.proofs.Common.{◌≡◌, ◌++◌, drop}
use Rattle.dp_cut.specs.LeastPlan as spec
use Rattle.dp_cut.proofs.plan.stages_of.Given as goal

abbrev pub invariant-loop-place : goal.invariant-loop-place
invariant-loop-place l = l.stages ++ spec.stages_of l.cut (drop l.place-index l.places) ≡ spec.stages_of l.cut l.places
