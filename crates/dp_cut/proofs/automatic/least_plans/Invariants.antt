use Rattle.std.specs.Option.{option_copied}
use Rattle.dp_cut.proofs.AutomaticPlans.{Made}
use Rattle.dp_cut.proofs.automatic.least_plans.Given as goal

abbrev pub invariant-loop-place : goal.invariant-loop-place
invariant-loop-place l = Made l.p (option_copied l.wishes.profile) l.wishes.rate l.wishes.stages l.wishes.workers l.place l.plans
