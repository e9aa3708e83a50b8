use Rattle.std.proofs.Common.{◌≡◌, map, length}
use Rattle.dp_memory.specs.Piece.{pages_of}
use Rattle.dp_memory.proofs.group.freeze_all.Given as goal

abbrev pub invariant-loop-at : goal.invariant-loop-at
invariant-loop-at l = (map pages_of l.groups.items ≡ map pages_of l.fn.groups.items) × (length l.groups.items ≡ length l.fn.groups.items)
