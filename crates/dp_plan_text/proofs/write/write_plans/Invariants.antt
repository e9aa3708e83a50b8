use Rattle.std.proofs.Common.{◌≡◌, ◌++◌, drop}
use Rattle.dp_plan_text.specs.WrittenText.{plan_texts}
use Rattle.dp_plan_text.proofs.write.write_plans.Given as goal

abbrev pub invariant-loop-plan : goal.invariant-loop-plan
invariant-loop-plan l = l.out ++ plan_texts l.p (drop l.plan-index l.plans) ≡ l.initial.out ++ plan_texts l.p l.plans
