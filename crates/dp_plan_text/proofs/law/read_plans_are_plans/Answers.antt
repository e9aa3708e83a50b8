use Rattle.dp_plan_text.proofs.ReadFits.{read_fits}
use Rattle.dp_plan_text.proofs.law.read_plans_are_plans.Goals as goal

pub returns : goal.returns
returns c = read_fits c.args.p.now c.requires.inlined
