use Rattle.dp_drive.proofs.CountLemmas.{counted_after}
use Rattle.dp_drive.proofs.HeadlineLemmas.{drives}
use Rattle.dp_drive.proofs.answer.drive.Goals as goal

pub returns-clause-drives : goal.returns-clause-drives
returns-clause-drives g c = drives _ _ _ _ _ c.final_status.ensures c.answer.ensures.carried c.answer.ensures.faults c.answer.ensures.contents

pub returns-clause-counted : goal.returns-clause-counted
returns-clause-counted g c = counted_after _ _ _ _ _ _ c.final_status.ensures c.answer.ensures.counted
