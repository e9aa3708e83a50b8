use Rattle.std.proofs.Common.{◌≡◌, drop}
use Rattle.dp_view.specs.Memories.{copied}
use Rattle.dp_view.proofs.memories.copy.Given as goal

abbrev pub invariant-loop-cell : goal.invariant-loop-cell
invariant-loop-cell l = copied l.from (drop l.cell-index l.cells) l.to ≡ copied l.from l.cells l.initial.to
