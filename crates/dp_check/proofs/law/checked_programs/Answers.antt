use Rattle.dp_check.proofs.CheckedLemmas.{checked}
use Rattle.dp_check.proofs.law.checked_programs.Goals as goal

pub returns : goal.returns
returns c = checked
