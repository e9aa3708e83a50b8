-- What one evaluation of a site does.
use Rattle.std.specs.Prelude.{ℕ, List, ℤ, slice_set}
use Rattle.dp_tree.specs.Eval.{Load}

-- a store into a cell, a print, the choice of a condition, or that of a break
pub data Effect : Type 0 where
  Stored : (cell : ℕ) (value : ℤ) → Effect
  Printed : (value : ℤ) → Effect
  Decided : (value : ℤ) → Effect
  Tried : (value : ℤ) → Effect

-- one evaluation of a site without a fault: its loads in order, and its effect
pub record Event : Type 0 where
  pub site : ℕ
  pub loads : List Load
  pub effect : Effect

-- the stored value, the printed one, or that of the condition
abbrev pub value_of : Effect → ℤ
value_of (Stored cell value) = value
value_of (Printed value) = value
value_of (Decided value) = value
value_of (Tried value) = value

-- the memory after the effect
abbrev pub stored : Effect → List ℤ → List ℤ
stored (Stored cell value) cells = slice_set cells cell value
stored (Printed value) cells = cells
stored (Decided value) cells = cells
stored (Tried value) cells = cells
