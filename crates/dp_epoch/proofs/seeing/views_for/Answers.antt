use Rattle.dp_theorem.proofs.GivenFits.{given_fits, given_tabled}
use Rattle.dp_epoch.proofs.seeing.views_for.Goals as goal

pub begin-requires-clause-fits : goal.begin-requires-clause-fits
begin-requires-clause-fits c = given_fits c.args.program.now c.requires.inlined c.args.plan.now c.requires.is_plan

pub begin-requires-clause-tabled : goal.begin-requires-clause-tabled
begin-requires-clause-tabled c = given_tabled c.args.program.now c.requires.inlined c.args.plan.now c.requires.is_plan
