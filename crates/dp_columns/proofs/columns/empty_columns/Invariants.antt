use Rattle.std.proofs.Common.{◌≡◌, ◌++◌, map, drop}
use Rattle.dp_columns.specs.Held.{IsEmpty}
use Rattle.dp_columns.specs.declared.column.Column.{Column}
use Rattle.std.proofs.Common.{All}
use Rattle.dp_columns.proofs.columns.empty_columns.Given as goal

abbrev pub invariant-loop-kind : goal.invariant-loop-kind
invariant-loop-kind l = (map (λ (c : Column). c.kind) l.told ++ drop l.kind-index l.kinds ≡ l.kinds) × All IsEmpty l.told
