use Rattle.dp_net.proofs.Assembled.{net_right}
use Rattle.dp_net.proofs.law.net_verdicts_are_the_definitions.Goals as goal

pub returns : goal.returns
returns c = net_right c.args.p.now c.args.plan.now c.requires.inlined c.requires.fits
