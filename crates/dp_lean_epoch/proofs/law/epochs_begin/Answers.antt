use Rattle.dp_lean_epoch.proofs.Memories.{epoch_begins}
use Rattle.dp_lean_epoch.proofs.law.epochs_begin.Goals as goal

pub returns : goal.returns
returns c = λ m key. epoch_begins m key
