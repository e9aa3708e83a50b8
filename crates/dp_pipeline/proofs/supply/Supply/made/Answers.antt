use Rattle.dp_pipeline.proofs.Supplied.{new_supplied}
use Rattle.dp_pipeline.proofs.supply.Supply.made.Goals as goal

pub returns-in-Ok-clause-fresh : goal.returns-in-Ok-clause-fresh
returns-in-Ok-clause-fresh c = new_supplied c.args.self.now c.in-Ok.spare.batch c.args.first c.args.size c.in-Ok.ensures.fresh
