use Rattle.dp_theorem.proofs.Fitting.{accepted}
use Rattle.dp_theorem.proofs.Causes.{uncaused}
use Rattle.dp_theorem.proofs.law.unclean_has_a_cause.Goals as goal

pub returns : goal.returns
returns c = uncaused (accepted c.args.p.now c.args.plan.now c.requires)
