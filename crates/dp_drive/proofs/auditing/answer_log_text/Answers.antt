use Rattle.std.proofs.Common.{◌∙◌, ap, Ok}
use Rattle.dp_words.specs.Run.{shown}
use Rattle.dp_load.proofs.TextsLemmas.{given}
use Rattle.dp_drive.proofs.CarryLemmas.{carry_audit, carry_log_failed, carry_log_refused, log_gives}
use Rattle.dp_drive.proofs.auditing.answer_log_text.Goals as goal

pub returns-in-Text-clause-carried : goal.returns-in-Text-clause-carried
returns-in-Text-clause-carried g c words asks were =
    carry_audit _ _ _ _ _ _ _ _ (shown c.args.texts.run) _ _ _ _ were _ asks _ (given _ _ _ (c.in_ok-log.was ∙ ap Ok c.in-Text.is)
    (log_gives _ _ _ _ _ _ _ c.load_log.ensures.loads c.load_log.ensures.faults c.load_log.ensures.failed_names)) c.compare.ensures.finishes

pub returns-in-Refused-clause-carried : goal.returns-in-Refused-clause-carried
returns-in-Refused-clause-carried g c words asks were =
    carry_log_refused _ _ _ _ _ _ _ _ (shown c.args.texts.run) _ _ _ _ were _ asks _ (given _ _ _ (c.in_ok-log.was ∙ ap Ok c.in-Refused.is)
    (log_gives _ _ _ _ _ _ _ c.load_log.ensures.loads c.load_log.ensures.faults c.load_log.ensures.failed_names)) c.refuse.ensures.finishes

pub returns-in-Failed-clause-carried : goal.returns-in-Failed-clause-carried
returns-in-Failed-clause-carried g c words asks were =
    carry_log_failed _ _ _ _ _ _ _ _ (shown c.args.texts.run) _ _ _ _ were _ asks (given _ _ _ (c.in_ok-log.was ∙ ap Ok c.in-Failed.is)
    (log_gives _ _ _ _ _ _ _ c.load_log.ensures.loads c.load_log.ensures.faults c.load_log.ensures.failed_names)) c.fail_read.ensures.finishes
