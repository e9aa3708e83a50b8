use Rattle.std.proofs.Common.{refl}
use Rattle.dp_forms.specs.Codes.{OfWhile}
use Rattle.dp_forms.proofs.GoesLemmas.{moved}
use Rattle.dp_forms.proofs.ChoiceLemmas.{kept_none, while_stays}
use Rattle.dp_forms.proofs.loops.turns_apart.Goals as goal

pub returns-then-memory-clause-runs : goal.returns-then-memory-clause-runs
returns-then-memory-clause-runs g c = moved (OfWhile g.row.S g.C.Value.is_of g.A.Code.is_of) (while_stays g.C.Value.is_of g.A.Code.is_of g.row.S
    (kept_none g.C.Value.is_of g.A.Code.is_of g.row.S) refl) c.left_at-left.ensures.at c.left_at-left.ensures.fuel c.left_at-left.ensures.registers refl refl
