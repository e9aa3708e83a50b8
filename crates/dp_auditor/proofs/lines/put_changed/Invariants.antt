use Rattle.std.proofs.Common.{◌≡◌, ◌-◌, ◌++◌, filter, length}
use Rattle.dp_tree.specs.Numbering.{numbers_from}
use Rattle.dp_view.specs.Changed.{differs}
use Rattle.dp_auditor.proofs.lines.put_changed.Given as goal

abbrev pub invariant-loop-cell : goal.invariant-loop-cell
invariant-loop-cell l = l.out ++ filter (differs l.before l.after) (numbers_from l.cell (length l.after - l.cell)) ≡ filter (differs l.before l.after)
    (numbers_from 0 (length l.after))
