use Rattle.dp_lean_epoch.proofs.Standing.{batch_stands, batch_ends}
use Rattle.dp_lean_epoch.proofs.Queueing.{come_one_by_one}
use Rattle.dp_lean_epoch.proofs.Caps.{batches_kept}
use Rattle.dp_lean_epoch.proofs.law.batches_stand.Goals as goal

pub returns-clause-standing : goal.returns-clause-standing
returns-clause-standing c = batch_stands

pub returns-clause-ends : goal.returns-clause-ends
returns-clause-ends c = batch_ends

pub returns-clause-coming : goal.returns-clause-coming
returns-clause-coming c = come_one_by_one

pub returns-clause-kept : goal.returns-clause-kept
returns-clause-kept c = batches_kept
