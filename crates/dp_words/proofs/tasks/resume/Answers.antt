use Rattle.dp_words.proofs.FormLemmas.{no_resume}
use Rattle.dp_words.proofs.tasks.resume.Goals as goal

pub returns-in-None : goal.returns-in-None
returns-in-None c = record { some = tt; within = tt; none = no_resume _ c.in-None.ensures.none }
