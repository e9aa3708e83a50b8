-- The counts of a program that have limits.
use Rattle.std.specs.Prelude.{ℕ, ◌+◌, List, [], ◌∷◌}
use Rattle.dp_tree.specs.declared.VarInfo.{VarInfo}
use Rattle.dp_tree.specs.declared.raw.RawItem.{RawItem}
use Rattle.dp_tree.specs.declared.raw.RawItem.TheVariants.{Scalar, Array, Function}
use Rattle.dp_check.specs.Tables.{globals}

-- how many functions an item declares
abbrev pub functions_in : RawItem → ℕ
functions_in (Scalar name start) = 0
functions_in (Array name size) = 0
functions_in (Function name params body) = 1

-- the functions besides `main`
abbrev pub function_count : List RawItem → ℕ
function_count [] = 0
function_count (item ∷ rest) = functions_in item + function_count rest

-- the cells of variables
abbrev pub cell_sum : List VarInfo → ℕ
cell_sum [] = 0
cell_sum (x ∷ rest) = x.length + cell_sum rest

-- the cells of the file-scope variables
abbrev pub global_cells : List RawItem → ℕ
global_cells items = cell_sum (globals items)
