use Rattle.dp_check.proofs.MarkLemmas.{names_read_off}
use Rattle.dp_check.proofs.law.visible_names.Goals as goal

pub returns : goal.returns
returns c = names_read_off
