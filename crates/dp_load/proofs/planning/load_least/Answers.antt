use Rattle.std.proofs.Common.{◌∙◌, ap, subst, Ok, Option}
use Rattle.dp_profile.specs.declared.Profile.{Profile}
use Rattle.dp_load.specs.Plans.{MakesPlans}
use Rattle.dp_load.proofs.TextsLemmas.{given, least_made, least_refused}
use Rattle.dp_load.proofs.planning.load_least.Goals as goal

pub returns-in_ok-plans-in-Text-clause-gives : goal.returns-in_ok-plans-in-Text-clause-gives
returns-in_ok-plans-in-Text-clause-gives g c =
    least_made _ _ _ _ _ _ _ _ _ _ (given _ _ _ (c.in_ok-profile.was ∙ ap Ok c.in-Text.is) c.load_counts.ensures.gives)
    (subst (λ (x : Option Profile). MakesPlans c.args.program.now c.args.options x c.in_ok-plans-in-Text.plans) c.as_ref.ensures.value
    c.in_ok-plans-in-Text.ensures.made)

pub returns-in-Refused-clause-gives : goal.returns-in-Refused-clause-gives
returns-in-Refused-clause-gives g c = least_refused _ _ _ _ _ _ _ _ _ (given _ _ _ (c.in_ok-profile.was ∙ ap Ok c.in-Refused.is) c.load_counts.ensures.gives)

pub returns-in-Failed-clause-gives : goal.returns-in-Failed-clause-gives
returns-in-Failed-clause-gives g c = given _ _ _ (c.in_ok-profile.was ∙ ap Ok c.in-Failed.is) c.load_counts.ensures.gives
