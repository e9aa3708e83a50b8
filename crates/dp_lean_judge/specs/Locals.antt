-- The cells of a region's body locals.
use Rattle.std.specs.Prelude.{ℕ, Bool, true, false, List, [], ◌∷◌, ℤ, pos, slice_set}
use Rattle.dp_base.specs.declared.CellId.{CellId}
use Rattle.dp_tree.specs.declared.VarInfo.{VarInfo}
use Rattle.dp_tree.specs.Step.{is_local_of}

-- one cell more, where it is a body local's
abbrev pub with_local_cell : Bool → CellId → List CellId → List CellId
with_local_cell true cell rest = cell ∷ rest
with_local_cell false cell rest = rest

-- the cells of region r's body locals
abbrev pub local_cells : ℕ → List VarInfo → List CellId
local_cells r [] = []
local_cells r (x ∷ xs) = with_local_cell (is_local_of r x.scope) x.first (local_cells r xs)

-- these cells read 0
abbrev pub clear_cells : List CellId → List ℤ → List ℤ
clear_cells [] cells = cells
clear_cells (cell ∷ rest) cells = clear_cells rest (slice_set cells cell.0 (pos 0))
