use Rattle.std.proofs.Common.{◌≡◌, drop}
use Rattle.dp_lean_judge.specs.Locals.{clear_cells}
use Rattle.dp_lean_judge.proofs.locals.clear.Given as goal

abbrev pub invariant-loop-cell : goal.invariant-loop-cell
invariant-loop-cell l = clear_cells (drop l.cell-index l.locals) l.cells ≡ clear_cells l.locals l.initial.cells
