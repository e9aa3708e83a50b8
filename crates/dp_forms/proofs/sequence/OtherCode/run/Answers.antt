use Rattle.std.proofs.Common.{refl}
use Rattle.dp_forms.specs.Codes.{OfOther}
use Rattle.dp_forms.proofs.GoesLemmas.{moved, other_stays}
use Rattle.dp_forms.proofs.sequence.OtherCode.run.Goals as goal

pub returns-clause-runs : goal.returns-clause-runs
returns-clause-runs g c = moved (OfOther g.row.S) (other_stays g.row.S) c.left_at.ensures.at c.left_at.ensures.fuel c.left_at.ensures.registers refl refl
