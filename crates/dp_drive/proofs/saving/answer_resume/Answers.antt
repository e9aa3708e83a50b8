use Rattle.std.proofs.Common.{◌∙◌, ap, Ok}
use Rattle.dp_words.specs.Run.{shown}
use Rattle.dp_words.specs.Words.{ToResume}
use Rattle.dp_drive.proofs.AnswerLemmas.{carry_on, loaded}
use Rattle.dp_drive.proofs.CarryLemmas.{for_resume}
use Rattle.dp_drive.proofs.RunLemmas.{carry_failed, carry_refused, may_run, same_faults, same_names, were_loaded}
use Rattle.dp_drive.proofs.saving.answer_resume.Goals as goal

pub returns-in-Run-clause-carried : goal.returns-in-Run-clause-carried
returns-in-Run-clause-carried g c words asks =
    let texts = loaded _ _ _ _ _ _ _ _ (c.in_ok-program.was ∙ ap Ok c.in-Run.is) c.load_texts.ensures.loads in
    carry_on _ _ _ _ _ _ _ _ _ _ _ (same_faults texts) (same_names texts)
    ((rw c.load_texts.ensures.contents at c.answer_checkpoint.ensures.carried) words asks (were_loaded _ _ _ _ _ _ _ _ _ texts))

pub returns-in-Refused-clause-carried : goal.returns-in-Refused-clause-carried
returns-in-Refused-clause-carried g c words asks =
    let texts = loaded _ _ _ _ _ _ _ _ (c.in_ok-program.was ∙ ap Ok c.in-Refused.is) c.load_texts.ensures.loads in
    carry_refused _ (ToResume (shown c.args.run) c.args.checkpoint.now) _ (for_resume (shown c.args.run) c.args.checkpoint.now) _ asks _ _ _ _ _ _ _ _ texts
    c.refuse.ensures.finishes

pub returns-in-Failed-clause-carried : goal.returns-in-Failed-clause-carried
returns-in-Failed-clause-carried g c words asks =
    let texts = loaded _ _ _ _ _ _ _ _ (c.in_ok-program.was ∙ ap Ok c.in-Failed.is) c.load_texts.ensures.loads in
    carry_failed _ (ToResume (shown c.args.run) c.args.checkpoint.now) _ (for_resume (shown c.args.run) c.args.checkpoint.now) _ asks _ _ _ _ _ _ _ _ texts
    c.fail_read.ensures.finishes

pub answer_checkpoint-requires-clause-may : goal.answer_checkpoint-requires-clause-may
answer_checkpoint-requires-clause-may g c κs within =
    may_run _ _ _ _ _ _ _ _ _ c.requires.run (loaded _ _ _ _ _ _ _ _ (c.in_ok-program.was ∙ ap Ok c.in-Run.is) c.load_texts.ensures.loads)

pub answer_checkpoint-requires-clause-shelf : goal.answer_checkpoint-requires-clause-shelf
answer_checkpoint-requires-clause-shelf g c κs within =
    rw (same_faults (loaded _ _ _ _ _ _ _ _ (c.in_ok-program.was ∙ ap Ok c.in-Run.is) c.load_texts.ensures.loads)) c.requires.shelf
