use Rattle.std.proofs.Common.{refl}
use Rattle.dp_forms.specs.Codes.{OfNothing}
use Rattle.dp_forms.proofs.GoesLemmas.{moved, nothing_goes}
use Rattle.dp_forms.proofs.sequence.NothingCode.run.Goals as goal

pub returns-clause-runs : goal.returns-clause-runs
returns-clause-runs g c = moved OfNothing nothing_goes c.requires refl refl refl refl
