use Rattle.dp_words.proofs.FormLemmas.{no_save}
use Rattle.dp_words.proofs.tasks.save.Goals as goal

pub returns-in-None : goal.returns-in-None
returns-in-None c = record { some = tt; within = tt; none = no_save _ c.in-None.ensures.none }
