use Rattle.std.proofs.Common.{◌≡◌, drop}
use Rattle.dp_view.specs.Marked.{unset}
use Rattle.dp_view.proofs.marks.unset.Given as goal

abbrev pub invariant-loop-cell : goal.invariant-loop-cell
invariant-loop-cell l = unset (drop l.cell-index l.cells) l.flags ≡ unset l.cells l.initial.flags
