use Rattle.std.proofs.Common.{◌∙◌, ap, Ok}
use Rattle.dp_words.specs.Run.{shown}
use Rattle.dp_words.specs.Words.{ToSave}
use Rattle.dp_drive.proofs.AnswerLemmas.{loaded}
use Rattle.dp_drive.proofs.CarryLemmas.{carry_save, for_save}
use Rattle.dp_drive.proofs.RunLemmas.{carry_failed, carry_refused, may_run}
use Rattle.dp_drive.proofs.saving.answer_save.Goals as goal

pub returns-in-Run-clause-carried : goal.returns-in-Run-clause-carried
returns-in-Run-clause-carried g c words asks =
    let texts = loaded _ _ _ _ _ _ _ _ (c.in_ok-program.was ∙ ap Ok c.in-Run.is) c.load_texts.ensures.loads in
    carry_save _ _ _ _ _ _ _ _ (shown c.args.run) _ _ _ _ c.args.place asks texts c.save_at.ensures.finishes

pub returns-in-Refused-clause-carried : goal.returns-in-Refused-clause-carried
returns-in-Refused-clause-carried g c words asks =
    let texts = loaded _ _ _ _ _ _ _ _ (c.in_ok-program.was ∙ ap Ok c.in-Refused.is) c.load_texts.ensures.loads in
    carry_refused _ (ToSave (shown c.args.run) c.args.place) _ (for_save (shown c.args.run) c.args.place) _ asks _ _ _ _ _ _ _ _ texts c.refuse.ensures.finishes

pub returns-in-Failed-clause-carried : goal.returns-in-Failed-clause-carried
returns-in-Failed-clause-carried g c words asks =
    let texts = loaded _ _ _ _ _ _ _ _ (c.in_ok-program.was ∙ ap Ok c.in-Failed.is) c.load_texts.ensures.loads in
    carry_failed _ (ToSave (shown c.args.run) c.args.place) _ (for_save (shown c.args.run) c.args.place) _ asks _ _ _ _ _ _ _ _ texts
    c.fail_read.ensures.finishes

pub save_at-requires-clause-may : goal.save_at-requires-clause-may
save_at-requires-clause-may g c κs within =
    may_run _ _ _ _ _ _ _ _ _ c.requires.run (loaded _ _ _ _ _ _ _ _ (c.in_ok-program.was ∙ ap Ok c.in-Run.is) c.load_texts.ensures.loads)
