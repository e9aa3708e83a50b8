use Rattle.std.proofs.Common.{◌≡◌, drop}
use Rattle.dp_view.specs.Memories.{cleared_cells}
use Rattle.dp_view.proofs.memories.clear.Given as goal

abbrev pub invariant-loop-cell : goal.invariant-loop-cell
invariant-loop-cell l = cleared_cells (drop l.cell-index l.cells) l.memory ≡ cleared_cells l.cells l.initial.memory
