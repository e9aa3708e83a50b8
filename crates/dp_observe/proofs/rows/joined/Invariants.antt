use Rattle.std.proofs.Common.{◌≡◌, ◌++◌, drop}
use Rattle.dp_observe.specs.steps.Taken.{all_rows}
use Rattle.dp_observe.proofs.rows.joined.Given as goal

abbrev pub invariant-loop-row : goal.invariant-loop-row
invariant-loop-row l = l.all ++ all_rows (drop l.row-index l.rows) ≡ all_rows l.rows
