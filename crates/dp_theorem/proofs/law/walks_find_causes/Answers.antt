use Rattle.std.proofs.Common.{◌∙◌}
use Rattle.dp_semantics.specs.Fits.{fits_plan}
use Rattle.dp_theorem.proofs.Fitting.{accepted}
use Rattle.dp_theorem.proofs.CauseFound.{finds_causes}
use Rattle.dp_theorem.proofs.EpochFound.{finds_in_epochs}
use Rattle.dp_theorem.proofs.law.walks_find_causes.Goals as goal

pub returns-clause-runs : goal.returns-clause-runs
returns-clause-runs c = finds_causes (accepted c.args.p.now c.args.plan.now c.requires)

pub returns-clause-epochs : goal.returns-clause-epochs
returns-clause-epochs c = finds_in_epochs (λ key program_is plan_is. accepted key.program key.plan ((λ i. fits_plan (program_is i) (plan_is i)) ∙ c.requires))
