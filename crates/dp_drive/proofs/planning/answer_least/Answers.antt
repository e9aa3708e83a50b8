use Rattle.std.proofs.Common.{◌∙◌, ap, subst, Ok, Option}
use Rattle.dp_profile.specs.declared.Profile.{Profile}
use Rattle.dp_words.specs.Planning.{shown_planning}
use Rattle.dp_load.proofs.TextsLemmas.{given}
use Rattle.dp_drive.specs.steps.Listed.{ListsLeast}
use Rattle.dp_drive.proofs.ListingLemmas.{carry_least_failed, carry_least_refused, carry_plans}
use Rattle.dp_drive.proofs.planning.answer_least.Goals as goal

pub returns-in-Text-clause-carried : goal.returns-in-Text-clause-carried
returns-in-Text-clause-carried g c words asked of asks read = carry_plans _ _ _ _ _ _ _ _ asked asks c.args.text (shown_planning c.args.plan) of _ read _ _
    (given _ _ _ (c.in_ok-profile.was ∙ ap Ok c.in-Text.is) c.load_counts.ensures.gives)
    (subst (λ (x : Option Profile). ListsLeast c.args.text c.args.program.now c.args.plan.options x (g.K.Sink.written c.args.sink.now)
    (g.K.Sink.written c.list_least.new.sink) c.list_least.result) c.as_ref.ensures.value c.list_least.ensures.lists)

pub returns-in-Refused-clause-carried : goal.returns-in-Refused-clause-carried
returns-in-Refused-clause-carried g c words asked of asks read = carry_least_refused _ _ _ _ _ _ _ _ asked asks c.args.text (shown_planning c.args.plan) of _
    read _ _ (given _ _ _ (c.in_ok-profile.was ∙ ap Ok c.in-Refused.is) c.load_counts.ensures.gives) c.refuse.ensures.finishes

pub returns-in-Failed-clause-carried : goal.returns-in-Failed-clause-carried
returns-in-Failed-clause-carried g c words asked of asks read = carry_least_failed _ _ _ _ _ _ _ _ asked asks c.args.text (shown_planning c.args.plan) of _ read
    _ (given _ _ _ (c.in_ok-profile.was ∙ ap Ok c.in-Failed.is) c.load_counts.ensures.gives) c.fail_read.ensures.finishes
