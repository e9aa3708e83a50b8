use Rattle.dp_lean_region.proofs.Lawful.{epochs_lawful}
use Rattle.dp_lean_region.proofs.law.epochs_are_lawful.Goals as goal

pub returns : goal.returns
returns c = λ most single. epochs_lawful c.args.p.now c.args.plan.now most c.requires.inlined c.requires.fits c.requires.stages single
