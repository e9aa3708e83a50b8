use Rattle.dp_words.proofs.FormLemmas.{no_audit}
use Rattle.dp_words.proofs.tasks.audit.Goals as goal

pub returns-in-None : goal.returns-in-None
returns-in-None c = record { some = tt; within = tt; none = no_audit _ c.in-None.ensures.none }
