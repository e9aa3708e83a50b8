use Rattle.dp_save.proofs.ReadBack.{written_back, written_only}
use Rattle.dp_save.proofs.law.written_checkpoints_are_read.Goals as goal

pub returns-clause-text : goal.returns-clause-text
returns-clause-text c = written_back c.args.p.now

pub returns-clause-alone : goal.returns-clause-alone
returns-clause-alone c = written_only c.args.p.now
