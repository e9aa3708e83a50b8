use Rattle.dp_theorem.proofs.Fitting.{fitting_closes, fitting_epochs, fitting_judges, fitting_leads, fitting_resumed}
use Rattle.dp_theorem.proofs.law.judgement_is_the_sources.Goals as goal

pub returns : goal.returns
returns c = record {
  judged = fitting_judges c.args.p.now c.args.plan.now c.requires;
  in_epochs = fitting_epochs c.args.p.now c.args.plan.now c.requires;
  resumed = fitting_resumed c.args.p.now c.args.plan.now c.requires;
  led = fitting_leads c.args.p.now c.args.plan.now c.requires;
  left = fitting_closes c.args.p.now c.args.plan.now c.requires;
}
