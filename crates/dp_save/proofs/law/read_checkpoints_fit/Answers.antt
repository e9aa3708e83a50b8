use Rattle.dp_save.proofs.ReadBack.{read_only}
use Rattle.dp_save.proofs.law.read_checkpoints_fit.Goals as goal

pub returns-clause-alone : goal.returns-clause-alone
returns-clause-alone c = read_only c.args.p.now
