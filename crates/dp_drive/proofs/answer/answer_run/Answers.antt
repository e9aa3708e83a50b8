use Rattle.std.proofs.Common.{◌∙◌, ap, Ok}
use Rattle.dp_words.specs.Run.{shown}
use Rattle.dp_words.specs.Words.{ToRun}
use Rattle.dp_drive.proofs.AnswerLemmas.{loaded, given, carry_run}
use Rattle.dp_drive.proofs.CarryLemmas.{for_run}
use Rattle.dp_drive.proofs.RunLemmas.{carry_failed, carry_refused, runs_as}
use Rattle.dp_drive.proofs.CountLemmas.{run_counts, refused_counts, failed_counts}
use Rattle.dp_load.proofs.accepted.Given.{words_given}
use Rattle.dp_drive.proofs.answer.answer_run.Goals as goal

pub returns-in-Run-clause-carried : goal.returns-in-Run-clause-carried
returns-in-Run-clause-carried g c words asks =
    let texts = loaded _ _ _ _ _ _ _ _ (c.in_ok-program.was ∙ ap Ok c.in-Run.is) c.load_texts.ensures.loads in
    let runs = runs_as c.options_of-options.ensures.fuel c.options_of-options.ensures.why c.run_to_end.ensures.runs in
    carry_run _ _ _ _ _ _ _ _ _ _ _ _ _ asks texts runs.finishes

pub returns-in-Refused-clause-carried : goal.returns-in-Refused-clause-carried
returns-in-Refused-clause-carried g c words asks =
    let texts = loaded _ _ _ _ _ _ _ _ (c.in_ok-program.was ∙ ap Ok c.in-Refused.is) c.load_texts.ensures.loads in
    carry_refused _ (ToRun (shown c.args.run)) _ (for_run (shown c.args.run)) _ asks _ _ _ _ _ _ _ _ texts c.refuse.ensures.finishes

pub returns-in-Failed-clause-carried : goal.returns-in-Failed-clause-carried
returns-in-Failed-clause-carried g c words asks =
    let texts = loaded _ _ _ _ _ _ _ _ (c.in_ok-program.was ∙ ap Ok c.in-Failed.is) c.load_texts.ensures.loads in
    carry_failed _ (ToRun (shown c.args.run)) _ (for_run (shown c.args.run)) _ asks _ _ _ _ _ _ _ _ texts c.fail_read.ensures.finishes

pub returns-in-Run-clause-counted : goal.returns-in-Run-clause-counted
returns-in-Run-clause-counted g c words asks =
    let texts = loaded _ _ _ _ _ _ _ _ (c.in_ok-program.was ∙ ap Ok c.in-Run.is) c.load_texts.ensures.loads in
    let runs = runs_as c.options_of-options.ensures.fuel c.options_of-options.ensures.why c.run_to_end.ensures.runs in
    run_counts _ _ _ _ _ _ _ _ _ _ _ _ _ asks texts runs.counted

pub returns-in-Refused-clause-counted : goal.returns-in-Refused-clause-counted
returns-in-Refused-clause-counted g c words asks = refused_counts _ _ _ _ _ _ _ _ c.refuse.ensures.finishes

pub returns-in-Failed-clause-counted : goal.returns-in-Failed-clause-counted
returns-in-Failed-clause-counted g c words asks = failed_counts _ _ _ _ _ _ _ _ c.fail_read.ensures.finishes

pub run_to_end-requires-clause-given : goal.run_to_end-requires-clause-given
run_to_end-requires-clause-given g c κs within =
    given _ _ _ _ _ _ _ _ _ (loaded _ _ _ _ _ _ _ _ (c.in_ok-program.was ∙ ap Ok c.in-Run.is) c.load_texts.ensures.loads)

pub run_to_end-requires-clause-words : goal.run_to_end-requires-clause-words
run_to_end-requires-clause-words g c κs within =
    words_given _ _ _ _ _ _ _ _ _ (loaded _ _ _ _ _ _ _ _ (c.in_ok-program.was ∙ ap Ok c.in-Run.is) c.load_texts.ensures.loads)
