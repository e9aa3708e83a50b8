use Rattle.std.proofs.Common.{◌≡◌, ◌++◌, drop, map}
use Rattle.dp_prepared.specs.Planned.{prepared_of}
use Rattle.dp_run_plan.proofs.preparing.prepare.Given as goal

abbrev pub invariant-loop-plan : goal.invariant-loop-plan
invariant-loop-plan l = l.regions ++ map (prepared_of l.program) (drop l.plan-index l.plans) ≡ map (prepared_of l.program) l.plans
