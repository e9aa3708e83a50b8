use Rattle.dp_lean.proofs.Coming.{packets_come}
use Rattle.dp_lean.proofs.law.packets_come.Goals as goal

pub returns : goal.returns
returns c = packets_come c.args.p.now c.args.plan.now c.requires.inlined c.requires.fits
