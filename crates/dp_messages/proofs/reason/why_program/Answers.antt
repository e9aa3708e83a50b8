use Rattle.dp_messages.proofs.LoadFindings.{program_finds}
use Rattle.dp_messages.proofs.reason.why_program.Goals as goal

pub returns-clause-finds : goal.returns-clause-finds
returns-clause-finds g c words asked of asks =
    rw c.found_in.ensures (program_finds _ asked _ of words _ _ _ _ c.in_ok-program.was asks c.load_program.ensures.loads c.load_program.ensures.faults)
