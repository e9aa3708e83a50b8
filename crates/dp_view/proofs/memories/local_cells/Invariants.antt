use Rattle.std.proofs.Common.{◌≡◌, ◌++◌, drop}
use Rattle.dp_view.specs.Memories.{local_numbers}
use Rattle.dp_view.proofs.memories.local_cells.Given as goal

abbrev pub invariant-loop-info : goal.invariant-loop-info
invariant-loop-info l = l.cells ++ local_numbers l.region (drop l.info-index l.vars) ≡ local_numbers l.region l.vars
