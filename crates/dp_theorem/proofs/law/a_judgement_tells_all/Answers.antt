use Rattle.dp_theorem.proofs.Told.{stores_are_all, tells}
use Rattle.dp_theorem.proofs.law.a_judgement_tells_all.Goals as goal

pub returns : goal.returns
returns c = record { told = tells c.args.plan.now; stores = stores_are_all }
