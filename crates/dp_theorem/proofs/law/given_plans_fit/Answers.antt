use Rattle.dp_theorem.proofs.GivenFits.{given_fits, given_tabled}
use Rattle.dp_theorem.proofs.law.given_plans_fit.Goals as goal

pub returns : goal.returns
returns c = record {
  fits = given_fits c.args.p.now c.requires.inlined c.args.plan.now c.requires.plan;
  tabled = given_tabled c.args.p.now c.requires.inlined c.args.plan.now c.requires.plan;
}
