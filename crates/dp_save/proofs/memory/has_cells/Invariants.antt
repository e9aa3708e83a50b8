use Rattle.std.proofs.Common.{◌≡◌, ◌+◌, drop, length}
use Rattle.dp_tree.specs.Trace.{start_cells}
use Rattle.dp_save.proofs.memory.has_cells.Given as goal

abbrev pub invariant-loop-info : goal.invariant-loop-info
invariant-loop-info l = l.left + length (start_cells l.vars) ≡ l.count + length (start_cells (drop l.info-index l.vars))
