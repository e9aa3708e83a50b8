use Rattle.std.proofs.Common.{◌≡◌, ◌++◌, drop, map}
use Rattle.dp_run_plan.specs.Others.{other_of}
use Rattle.dp_run_plan.proofs.plans.RunPlans.of.Given as goal

abbrev pub invariant-loop-plan : goal.invariant-loop-plan
invariant-loop-plan l = l.others ++ map (other_of l.chooses) (drop l.plan-index l.plans) ≡ map (other_of l.chooses) l.plans
