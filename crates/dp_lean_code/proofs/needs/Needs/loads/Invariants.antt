use Rattle.std.proofs.Common.{◌≡◌, drop}
use Rattle.std.specs.List.{list_any}
use Rattle.std.proofs.Common.{◌==◌}
use Rattle.dp_lean_code.proofs.needs.Needs.loads.Given as goal

abbrev pub invariant-loop-load : goal.invariant-loop-load
invariant-loop-load l = list_any (λ y. y == l.var) (drop l.load-index l.access.loads) ≡ list_any (λ y. y == l.var) l.access.loads
