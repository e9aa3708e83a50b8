use Rattle.std.proofs.Common.{◌≡◌, ◌++◌, drop, length}
use Rattle.dp_view.specs.Changed.{differs}
use Rattle.dp_view.proofs.ChangeLemmas.{found_from}
use Rattle.dp_view.proofs.changed.put_changes.Given as goal

abbrev pub invariant-loop-cell : goal.invariant-loop-cell
invariant-loop-cell l = l.out ++ found_from (differs l.before l.after) (length l.after) l.next (drop l.cell-index l.cells) ≡ found_from
    (differs l.before l.after) (length l.after) 0 l.cells
