use Rattle.std.proofs.Common.{◌∙◌, ap, Ok}
use Rattle.dp_words.specs.Profiling.{shown_profiling}
use Rattle.dp_load.proofs.TextsLemmas.{given}
use Rattle.dp_drive.proofs.ProfilingLemmas.{carry_profile, carry_input_refused, carry_input_failed}
use Rattle.dp_drive.proofs.profiling.answer_input.Goals as goal

pub returns-in-Text-clause-carried : goal.returns-in-Text-clause-carried
returns-in-Text-clause-carried g c words asks read = carry_profile _ _ _ _ _ _ _ _ _ (shown_profiling c.args.profile) asks _ read _
    (given _ _ _ (c.in_ok-input.was ∙ ap Ok c.in-Text.is) c.load_words.ensures.gives) c.show_run.ensures.finishes

pub returns-in-Refused-clause-carried : goal.returns-in-Refused-clause-carried
returns-in-Refused-clause-carried g c words asks read = carry_input_refused _ _ _ _ _ _ _ _ _ (shown_profiling c.args.profile) asks _ read _
    (given _ _ _ (c.in_ok-input.was ∙ ap Ok c.in-Refused.is) c.load_words.ensures.gives) c.refuse.ensures.finishes

pub returns-in-Failed-clause-carried : goal.returns-in-Failed-clause-carried
returns-in-Failed-clause-carried g c words asks read = carry_input_failed _ _ _ _ _ _ _ _ _ (shown_profiling c.args.profile) asks _ read
    (given _ _ _ (c.in_ok-input.was ∙ ap Ok c.in-Failed.is) c.load_words.ensures.gives) c.fail_read.ensures.finishes
