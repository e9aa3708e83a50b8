use Rattle.dp_net.proofs.Assembled.{batches_right, batches_end}
use Rattle.dp_net.proofs.law.batch_verdicts_are_the_definitions.Goals as goal

pub returns-clause-right : goal.returns-clause-right
returns-clause-right c = batches_right c.args.p.now c.args.plan.now c.requires.inlined c.requires.fits

pub returns-clause-ends : goal.returns-clause-ends
returns-clause-ends c = batches_end c.args.p.now c.args.plan.now c.requires.inlined c.requires.fits
