use Rattle.std.proofs.Common.{◌≡◌, [], length, All}
use Rattle.dp_units.proofs.graph.empty_rows.Given as goal

abbrev pub invariant-loop-row : goal.invariant-loop-row
invariant-loop-row l = record { count : length l.rows.items ≡ l._row; empty : All (λ row. row.items ≡ []) l.rows.items }
