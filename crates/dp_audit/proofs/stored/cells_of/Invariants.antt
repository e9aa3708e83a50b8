use Rattle.std.proofs.Common.{◌≡◌, ◌++◌, drop, map}
use Rattle.dp_audit.specs.Stored.{stored_cell}
use Rattle.dp_audit.proofs.stored.cells_of.Given as goal

abbrev pub invariant-loop-store : goal.invariant-loop-store
invariant-loop-store l = l.cells ++ map stored_cell (drop l.store-index l.stores) ≡ map stored_cell l.stores
