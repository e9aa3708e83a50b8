use Rattle.std.proofs.Common.{◌≡◌, map}
use Rattle.dp_columns.specs.Held.{IsEmpty, FrontIs}
use Rattle.dp_columns.specs.declared.column.Column.{Column}
use Rattle.dp_columns.proofs.columns.clear_columns.Given as goal

abbrev pub invariant-loop-place : goal.invariant-loop-place
invariant-loop-place l = (map (λ (c : Column). c.kind) l.told ≡ map (λ (c : Column). c.kind) l.fn.told) × FrontIs IsEmpty l.place l.told
