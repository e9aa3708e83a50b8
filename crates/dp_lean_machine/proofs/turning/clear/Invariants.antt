use Rattle.std.proofs.Common.{◌≡◌, drop}
use Rattle.dp_lean_judge.specs.Locals.{clear_cells}
use Rattle.dp_lean_machine.proofs.turning.clear.Given as goal

abbrev pub invariant-loop-cell : goal.invariant-loop-cell
invariant-loop-cell g l = clear_cells (drop l.cell-index l.locals) (g.M.Memory.cells l.memory) ≡ clear_cells l.locals (g.M.Memory.cells l.initial.memory)
