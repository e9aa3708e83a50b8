-- The regions that are left to do, by their numbers.
use Rattle.std.specs.Prelude.{ℕ, List, filter_map, Option}
use Rattle.dp_tree.specs.declared.Stmt.{Stmt, out-Stmt}
use Rattle.dp_tree.specs.Step.{region_number}

-- the region's number
abbrev pub number_of_region : Stmt → Option ℕ
number_of_region s = region_number (out-Stmt s)

-- the numbers of the regions among these statements
abbrev pub regions_left : List Stmt → List ℕ
regions_left statements = filter_map number_of_region statements
