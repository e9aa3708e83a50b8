use Rattle.std.proofs.Common.{◌≡◌, ◌++◌, map, drop}
use Rattle.dp_memory.specs.Piece.{pages_of}
use Rattle.dp_memory.proofs.group.copy_all.Given as goal

abbrev pub invariant-loop-group : goal.invariant-loop-group
invariant-loop-group l = map pages_of l.copies.items ++ map pages_of (drop l.group-index l.groups) ≡ map pages_of l.groups
