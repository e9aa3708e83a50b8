use Rattle.dp_messages.proofs.LoadFindings.{batch_finds}
use Rattle.dp_messages.proofs.reason.why_batch.Goals as goal

pub returns-clause-finds : goal.returns-clause-finds
returns-clause-finds g c words asks = rw c.found_in_batch.ensures (batch_finds _ _ _ words asks _ _ _ _ _ _ c.in_ok-texts.was c.load_batch.ensures.loads)
