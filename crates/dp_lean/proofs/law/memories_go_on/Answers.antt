use Rattle.dp_lean.proofs.GoingOn.{memories_go_on}
use Rattle.dp_lean.proofs.law.memories_go_on.Goals as goal

pub returns : goal.returns
returns c = memories_go_on c.args.p.now c.args.plan.now c.requires.fits
