use Rattle.dp_messages.proofs.LoadFindings.{run_finds}
use Rattle.dp_messages.proofs.reason.why_run.Goals as goal

pub returns-clause-finds : goal.returns-clause-finds
returns-clause-finds g c words asked of asks =
    rw c.found_in_run.ensures (run_finds _ asked _ of words asks _ _ _ _ _ _ c.in_ok-texts.was c.load_texts.ensures.loads)
