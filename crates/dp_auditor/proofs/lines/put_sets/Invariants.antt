use Rattle.std.proofs.Common.{◌≡◌, ◌++◌, drop, map}
use Rattle.dp_log.specs.Changes.{set_from}
use Rattle.dp_auditor.proofs.lines.put_sets.Given as goal

abbrev pub invariant-loop-cell : goal.invariant-loop-cell
invariant-loop-cell l = l.sets ++ map (set_from l.source) (drop l.cell-index l.cells) ≡ map (set_from l.source) l.cells
