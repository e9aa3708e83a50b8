use Rattle.std.proofs.Common.{◌∙◌, ap, Ok}
use Rattle.dp_words.specs.Run.{shown}
use Rattle.dp_words.specs.Words.{ToAudit}
use Rattle.dp_drive.proofs.AnswerLemmas.{carry_on, loaded}
use Rattle.dp_drive.proofs.CarryLemmas.{for_audit}
use Rattle.dp_drive.proofs.RunLemmas.{carry_failed, carry_refused, may_run, same_faults, same_names, were_loaded}
use Rattle.dp_drive.proofs.auditing.answer_audit.Goals as goal

pub returns-in-Run-clause-carried : goal.returns-in-Run-clause-carried
returns-in-Run-clause-carried g c words asks =
    let texts = loaded _ _ _ _ _ _ _ _ (c.in_ok-program.was ∙ ap Ok c.in-Run.is) c.load_texts.ensures.loads in
    carry_on _ _ _ _ _ _ _ _ _ _ _ (same_faults texts) (same_names texts)
    ((rw c.load_texts.ensures.contents at c.answer_log_text.ensures.carried) words asks (were_loaded _ _ _ _ _ _ _ _ _ texts))

pub returns-in-Refused-clause-carried : goal.returns-in-Refused-clause-carried
returns-in-Refused-clause-carried g c words asks =
    let texts = loaded _ _ _ _ _ _ _ _ (c.in_ok-program.was ∙ ap Ok c.in-Refused.is) c.load_texts.ensures.loads in
    carry_refused _ (ToAudit (shown c.args.run) c.args.log.now) _ (for_audit (shown c.args.run) c.args.log.now) _ asks _ _ _ _ _ _ _ _ texts
    c.refuse.ensures.finishes

pub returns-in-Failed-clause-carried : goal.returns-in-Failed-clause-carried
returns-in-Failed-clause-carried g c words asks =
    let texts = loaded _ _ _ _ _ _ _ _ (c.in_ok-program.was ∙ ap Ok c.in-Failed.is) c.load_texts.ensures.loads in
    carry_failed _ (ToAudit (shown c.args.run) c.args.log.now) _ (for_audit (shown c.args.run) c.args.log.now) _ asks _ _ _ _ _ _ _ _ texts
    c.fail_read.ensures.finishes

pub answer_log_text-requires-clause-may : goal.answer_log_text-requires-clause-may
answer_log_text-requires-clause-may g c =
    may_run _ _ _ _ _ _ _ _ _ c.requires.run (loaded _ _ _ _ _ _ _ _ (c.in_ok-program.was ∙ ap Ok c.in-Run.is) c.load_texts.ensures.loads)
