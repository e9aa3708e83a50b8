use Rattle.std.proofs.Common.{◌∙◌, ap, Ok}
use Rattle.dp_words.specs.Run.{shown}
use Rattle.dp_words.specs.Words.{ToLog}
use Rattle.dp_drive.proofs.AnswerLemmas.{loaded}
use Rattle.dp_drive.proofs.CarryLemmas.{carry_log, for_log}
use Rattle.dp_drive.proofs.RunLemmas.{carry_failed, carry_refused, may_run}
use Rattle.dp_drive.proofs.logging.answer_log.Goals as goal

pub returns-in-Run-clause-carried : goal.returns-in-Run-clause-carried
returns-in-Run-clause-carried g c words asks =
    let texts = loaded _ _ _ _ _ _ _ _ (c.in_ok-program.was ∙ ap Ok c.in-Run.is) c.load_texts.ensures.loads in
    carry_log _ _ _ _ _ _ _ _ (shown c.args.run) _ _ _ _ asks texts c.write_log.ensures.finishes

pub returns-in-Refused-clause-carried : goal.returns-in-Refused-clause-carried
returns-in-Refused-clause-carried g c words asks =
    let texts = loaded _ _ _ _ _ _ _ _ (c.in_ok-program.was ∙ ap Ok c.in-Refused.is) c.load_texts.ensures.loads in
    carry_refused _ (ToLog (shown c.args.run)) _ (for_log (shown c.args.run)) _ asks _ _ _ _ _ _ _ _ texts c.refuse.ensures.finishes

pub returns-in-Failed-clause-carried : goal.returns-in-Failed-clause-carried
returns-in-Failed-clause-carried g c words asks =
    let texts = loaded _ _ _ _ _ _ _ _ (c.in_ok-program.was ∙ ap Ok c.in-Failed.is) c.load_texts.ensures.loads in
    carry_failed _ (ToLog (shown c.args.run)) _ (for_log (shown c.args.run)) _ asks _ _ _ _ _ _ _ _ texts c.fail_read.ensures.finishes

pub write_log-requires-clause-may : goal.write_log-requires-clause-may
write_log-requires-clause-may g c =
    may_run _ _ _ _ _ _ _ _ _ c.requires.run (loaded _ _ _ _ _ _ _ _ (c.in_ok-program.was ∙ ap Ok c.in-Run.is) c.load_texts.ensures.loads)
