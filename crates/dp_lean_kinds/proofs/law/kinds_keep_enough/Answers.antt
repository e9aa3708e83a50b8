use Rattle.dp_lean_kinds.proofs.KeptEnough.{keep_enough}
use Rattle.dp_lean_kinds.proofs.law.kinds_keep_enough.Goals as goal

pub returns : goal.returns
returns c = keep_enough c.args.p.now c.args.plan.now c.requires.inlined c.requires.fits
