-- Where an iteration stored.
use Rattle.std.specs.Prelude.{ℕ}
use Rattle.dp_base.specs.declared.StoreOf.{StoreOf}

-- the cell of a store
abbrev pub stored_cell : StoreOf → ℕ
stored_cell s = s.cell.0
