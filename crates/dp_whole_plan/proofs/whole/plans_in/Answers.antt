use Rattle.std.proofs.Common.{subst}
use Rattle.dp_plan_text.specs.Refused.{ReadsAsPlans}
use Rattle.dp_whole_plan.proofs.whole.plans_in.Goals as goal

pub returns-in-Ok : goal.returns-in-Ok
returns-in-Ok c = c.read_plans_are_plans.ensures c.args.text.now c.in-Ok.plans (subst (λ r. ReadsAsPlans c.args.p.now c.args.text.now r) c.in-Ok.is
    c.read_plans.ensures)
