use Rattle.std.proofs.Common.{◌∙◌, ap, Ok}
use Rattle.dp_words.specs.Run.{shown}
use Rattle.dp_words.specs.Words.{ToResume}
use Rattle.dp_load.proofs.TextsLemmas.{given}
use Rattle.dp_messages.proofs.FindingLemmas.{for_resume, run_refused, run_unread}
use Rattle.dp_messages.proofs.LoadFindings.{point_finds}
use Rattle.dp_messages.proofs.reason.why_resume.Goals as goal

pub returns-in-Refused-clause-finds : goal.returns-in-Refused-clause-finds
returns-in-Refused-clause-finds g c words asks =
    run_refused _ (ToResume (shown c.args.run) c.args.name.now) _ (for_resume (shown c.args.run) c.args.name.now) words asks _ _ _ _ _
    (given _ _ _ (c.in_ok-program.was ∙ ap Ok c.in-Refused.is) c.load_texts.ensures.loads)

pub returns-in-Failed-clause-finds : goal.returns-in-Failed-clause-finds
returns-in-Failed-clause-finds g c words asks =
    run_unread _ (ToResume (shown c.args.run) c.args.name.now) _ (for_resume (shown c.args.run) c.args.name.now) words asks _ _ _ _ _
    (given _ _ _ (c.in_ok-program.was ∙ ap Ok c.in-Failed.is) c.load_texts.ensures.loads)

pub returns-clause-finds : goal.returns-clause-finds
returns-clause-finds g c words asks =
    let read = given _ _ _ (c.in_ok-program.was ∙ ap Ok c.in-Run.is) c.load_texts.ensures.loads in
    rw c.found_in.ensures (point_finds _ _ _ words _ _ _ _ _ _ _ _ read _ _ c.in_ok-last.was asks
    (rw c.load_texts.ensures.contents at c.load_checkpoint.ensures.loads) c.load_checkpoint.ensures.faults)
