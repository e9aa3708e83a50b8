use Rattle.dp_theorem.proofs.Recovering.{recovers}
use Rattle.dp_theorem.proofs.law.recovered_ascend.Goals as goal

pub returns : goal.returns
returns c = recovers c.args.p.now c.args.plan.now
