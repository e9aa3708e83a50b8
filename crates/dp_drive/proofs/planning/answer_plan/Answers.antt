use Rattle.std.proofs.Common.{◌∙◌, ap, Ok}
use Rattle.dp_load.proofs.TextsLemmas.{given, program_gives}
use Rattle.dp_drive.proofs.AnswerLemmas.{carry_on, carry_program_refused, carry_program_failed}
use Rattle.dp_load.proofs.accepted.Given.{loaded_inlined}
use Rattle.dp_drive.proofs.planning.answer_plan.Goals as goal

pub answer_least-requires-clause-inlined : goal.answer_least-requires-clause-inlined
answer_least-requires-clause-inlined g c =
    loaded_inlined _ _ _ (given _ _ _ (c.in_ok-program.was ∙ ap Ok c.in-Text.is) (program_gives _ _ _ _ _ _ _ c.load_program.ensures.loads
    c.load_program.ensures.faults c.load_program.ensures.failed_names)).0

pub returns-in-Text-clause-carried : goal.returns-in-Text-clause-carried
returns-in-Text-clause-carried g c words asked of asks =
    let read = (given _ _ _ (c.in_ok-program.was ∙ ap Ok c.in-Text.is) (program_gives _ _ _ _ _ _ _ c.load_program.ensures.loads c.load_program.ensures.faults
    c.load_program.ensures.failed_names)) in
    carry_on _ _ _ _ _ _ _ _ _ _ _ read.1 read.2 ((rw c.load_program.ensures.contents at c.answer_least.ensures.carried) words asked of asks read.0)

pub returns-in-Refused-clause-carried : goal.returns-in-Refused-clause-carried
returns-in-Refused-clause-carried g c words asked of asks =
    carry_program_refused _ _ _ _ _ _ _ _ asked _ _ _ asks of.reads.program (given _ _ _ (c.in_ok-program.was ∙ ap Ok c.in-Refused.is)
    (program_gives _ _ _ _ _ _ _ c.load_program.ensures.loads c.load_program.ensures.faults c.load_program.ensures.failed_names)) c.refuse.ensures.finishes

pub returns-in-Failed-clause-carried : goal.returns-in-Failed-clause-carried
returns-in-Failed-clause-carried g c words asked of asks =
    carry_program_failed _ _ _ _ _ _ _ _ asked _ _ asks of.reads.program (given _ _ _ (c.in_ok-program.was ∙ ap Ok c.in-Failed.is)
    (program_gives _ _ _ _ _ _ _ c.load_program.ensures.loads c.load_program.ensures.faults c.load_program.ensures.failed_names)) c.fail_read.ensures.finishes
