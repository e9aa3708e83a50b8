use Rattle.std.proofs.Common.{subst, IfSome}
use Rattle.std.specs.Option.{option_copied}
use Rattle.dp_plan.specs.GivenPlans.{IsPlan}
use Rattle.dp_prepared.proofs.Plans.{planned}
use Rattle.dp_run_plan.proofs.fitting.fitting.Goals as goal

pub returns-then-runs_for : goal.returns-then-runs_for
returns-then-runs_for c = λ p inlined is given.
    let there : IsPlan p c.in-Some.other.now = subst (λ other. IfSome (option_copied other) (IsPlan p)) c.in-Some.is given in
    (planned p inlined c.in-Some.other.now there, c.runs_for.ensures p inlined is there c.if-runs_for.true)
