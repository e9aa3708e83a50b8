use Rattle.dp_resume.proofs.SavedFits.{checkpoint_fits, checkpoint_is_read}
use Rattle.dp_resume.proofs.law.saved_checkpoints_are_read.Goals as goal

pub returns : goal.returns
returns c = record { fits = checkpoint_fits c.args.p.now c.args.plans.now; read = checkpoint_is_read c.args.p.now c.args.plans.now }
