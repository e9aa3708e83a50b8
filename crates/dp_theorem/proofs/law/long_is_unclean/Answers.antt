use Rattle.dp_theorem.proofs.Fitting.{accepted}
use Rattle.dp_theorem.proofs.ShortIterations as short
use Rattle.dp_theorem.proofs.law.long_is_unclean.Goals as goal

pub returns : goal.returns
returns c = short.long_is_unclean (accepted c.args.p.now c.args.plan.now c.requires)
