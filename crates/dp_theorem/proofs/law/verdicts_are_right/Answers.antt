use Rattle.std.proofs.Common.{◌∙◌}
use Rattle.dp_semantics.specs.Fits.{fits_plan}
use Rattle.dp_theorem.proofs.Fitting.{accepted}
use Rattle.dp_theorem.proofs.Decides.{decides_rightly}
use Rattle.dp_theorem.proofs.law.verdicts_are_right.Goals as goal

pub returns : goal.returns
returns c = decides_rightly (λ key program_is plan_is. accepted key.program key.plan ((λ i. fits_plan (program_is i) (plan_is i)) ∙ c.requires))
