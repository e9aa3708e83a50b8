use Rattle.std.proofs.Common.{◌≡◌, ◌+◌, drop}
use Rattle.dp_cut.specs.LeastPlan as spec
use Rattle.dp_cut.proofs.plan.stage_at.Given as goal

abbrev pub invariant-loop-stretch : goal.invariant-loop-stretch
invariant-loop-stretch l = record {
  same : spec.stage_of_unit l.stage (drop l.stretch-index l.cut) l.left ≡ spec.stage_of_unit 1 l.cut l.place;
  count : l.stage ≡ l.stretch-index + 1;
}
