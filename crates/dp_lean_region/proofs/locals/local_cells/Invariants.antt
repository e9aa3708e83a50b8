use Rattle.std.proofs.Common.{◌≡◌, ◌++◌, drop}
use Rattle.dp_lean_judge.specs.Locals.{local_cells}
use Rattle.dp_lean_region.proofs.locals.local_cells.Given as goal

abbrev pub invariant-loop-info : goal.invariant-loop-info
invariant-loop-info l = l.cells ++ local_cells l.region (drop l.info-index l.vars) ≡ local_cells l.region l.vars
