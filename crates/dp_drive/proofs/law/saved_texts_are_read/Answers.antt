use Rattle.dp_drive.proofs.SavedLemmas.{saved_read}
use Rattle.dp_drive.proofs.law.saved_texts_are_read.Goals as goal

pub returns : goal.returns
returns c contents = saved_read contents
