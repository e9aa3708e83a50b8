use Rattle.dp_load.proofs.ReadPlans.{read_ready}
use Rattle.dp_load.proofs.law.read_plans_are_ready.Goals as goal

pub returns : goal.returns
returns c = read_ready c.args.p.now c.requires
