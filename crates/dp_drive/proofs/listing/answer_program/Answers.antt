use Rattle.std.proofs.Common.{◌∙◌, ap, Ok}
use Rattle.dp_load.proofs.TextsLemmas.{given, program_gives}
use Rattle.dp_drive.proofs.AnswerLemmas.{carry_program_refused, carry_program_failed}
use Rattle.dp_drive.proofs.ListingLemmas.{carry_listing}
use Rattle.dp_drive.proofs.listing.answer_program.Goals as goal

pub returns-in-Text-clause-carried : goal.returns-in-Text-clause-carried
returns-in-Text-clause-carried g c words asked of asks =
    carry_listing _ _ _ _ _ _ _ _ asked asks c.args.listing c.args.name.now _ _ of (given _ _ _ (c.in_ok-program.was ∙ ap Ok c.in-Text.is)
    (program_gives _ _ _ _ _ _ _ c.load_program.ensures.loads c.load_program.ensures.faults c.load_program.ensures.failed_names))
    c.list_program.ensures.finishes

pub returns-in-Refused-clause-carried : goal.returns-in-Refused-clause-carried
returns-in-Refused-clause-carried g c words asked of asks =
    carry_program_refused _ _ _ _ _ _ _ _ asked _ _ _ asks of.reads.program (given _ _ _ (c.in_ok-program.was ∙ ap Ok c.in-Refused.is)
    (program_gives _ _ _ _ _ _ _ c.load_program.ensures.loads c.load_program.ensures.faults c.load_program.ensures.failed_names)) c.refuse.ensures.finishes

pub returns-in-Failed-clause-carried : goal.returns-in-Failed-clause-carried
returns-in-Failed-clause-carried g c words asked of asks =
    carry_program_failed _ _ _ _ _ _ _ _ asked _ _ asks of.reads.program (given _ _ _ (c.in_ok-program.was ∙ ap Ok c.in-Failed.is)
    (program_gives _ _ _ _ _ _ _ c.load_program.ensures.loads c.load_program.ensures.faults c.load_program.ensures.failed_names)) c.fail_read.ensures.finishes
