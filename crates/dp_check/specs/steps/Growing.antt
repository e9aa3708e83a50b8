-- Tables as they grow.
use Rattle.std.specs.Prelude.{ℕ, ◌+◌, List, ◌++◌, length}
use Rattle.dp_tree.specs.declared.VarInfo.{VarInfo}
use Rattle.dp_tree.specs.declared.SiteInfo.{SiteInfo}
use Rattle.dp_tree.specs.declared.raw.RawStmt.{RawStmt, out-RawStmt}
use Rattle.dp_check.specs.declared.variables.Variables.{Variables}
use Rattle.dp_check.specs.declared.sites.Sites.{Sites}
use Rattle.dp_check.specs.Place.{parts}
use Rattle.dp_check.specs.Tables.{laid, region_made, top_sites, main_sites, regions_from}
use Rattle.dp_check.specs.Limits.{cell_sum}

-- the table with more variables, whose cells come next
abbrev pub with_variables : Variables → List VarInfo → Variables
with_variables v xs = record v { rows = v.rows ++ laid v.cells xs; cells = v.cells + cell_sum xs }

-- the table with more sites
abbrev pub with_sites : Sites → List SiteInfo → Sites
with_sites t xs = record t { rows = t.rows ++ xs; next = t.next + length xs }

-- the table after a statement at the top of `main`, where region r is the next one
abbrev pub with_top : Sites → ℕ → RawStmt → Sites
with_top t r s = record (with_sites t (top_sites r s)) { regions = t.regions ++ region_made t.next (out-RawStmt s) (parts s) }

-- the table after `main`
abbrev pub with_main : Sites → ℕ → List RawStmt → Sites
with_main t r all = record (with_sites t (main_sites r all)) { regions = t.regions ++ regions_from t.next all }
