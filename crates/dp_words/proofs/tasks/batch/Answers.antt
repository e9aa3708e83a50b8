use Rattle.dp_words.proofs.FormLemmas.{no_batch}
use Rattle.dp_words.proofs.tasks.batch.Goals as goal

pub returns-in-None : goal.returns-in-None
returns-in-None c = record { some = tt; within = tt; none = no_batch _ c.in-None.ensures.none }
