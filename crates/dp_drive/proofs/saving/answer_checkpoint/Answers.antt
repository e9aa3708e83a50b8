use Rattle.std.proofs.Common.{◌∙◌, ap, Ok}
use Rattle.dp_words.specs.Run.{shown}
use Rattle.dp_load.proofs.TextsLemmas.{given}
use Rattle.dp_drive.proofs.CarryLemmas.{carry_point_failed, carry_point_refused, carry_resume, checkpoint_gives, loaded_fits}
use Rattle.dp_drive.proofs.saving.answer_checkpoint.Goals as goal

pub returns-in-Text-clause-carried : goal.returns-in-Text-clause-carried
returns-in-Text-clause-carried g c words asks were =
    carry_resume _ _ _ _ _ _ _ _ (shown c.args.texts.run) _ _ _ _ were _ asks _ (given _ _ _ (c.in_ok-checkpoint.was ∙ ap Ok c.in-Text.is)
    (checkpoint_gives _ _ _ _ _ _ _ _ c.load_checkpoint.ensures.loads c.load_checkpoint.ensures.faults c.load_checkpoint.ensures.failed_names))
    c.resume_at.ensures.finishes

pub returns-in-Refused-clause-carried : goal.returns-in-Refused-clause-carried
returns-in-Refused-clause-carried g c words asks were =
    carry_point_refused _ _ _ _ _ _ _ _ (shown c.args.texts.run) _ _ _ _ were _ asks _ (given _ _ _ (c.in_ok-checkpoint.was ∙ ap Ok c.in-Refused.is)
    (checkpoint_gives _ _ _ _ _ _ _ _ c.load_checkpoint.ensures.loads c.load_checkpoint.ensures.faults c.load_checkpoint.ensures.failed_names))
    c.refuse.ensures.finishes

pub returns-in-Failed-clause-carried : goal.returns-in-Failed-clause-carried
returns-in-Failed-clause-carried g c words asks were =
    carry_point_failed _ _ _ _ _ _ _ _ (shown c.args.texts.run) _ _ _ _ were _ asks (given _ _ _ (c.in_ok-checkpoint.was ∙ ap Ok c.in-Failed.is)
    (checkpoint_gives _ _ _ _ _ _ _ _ c.load_checkpoint.ensures.loads c.load_checkpoint.ensures.faults c.load_checkpoint.ensures.failed_names))
    c.fail_read.ensures.finishes

pub resume_at-requires-clause-fits : goal.resume_at-requires-clause-fits
resume_at-requires-clause-fits g c κs within =
    loaded_fits _ _ _ _ _ _ _ _ (given _ _ _ (c.in_ok-checkpoint.was ∙ ap Ok c.in-Text.is) (checkpoint_gives _ _ _ _ _ _ _ _ c.load_checkpoint.ensures.loads
    c.load_checkpoint.ensures.faults c.load_checkpoint.ensures.failed_names))
