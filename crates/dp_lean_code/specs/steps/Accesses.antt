-- The sites of a region as the code keeps them, each with what it loads and stores.
use Rattle.std.specs.Prelude.{ℕ, List, map}
use Rattle.std.specs.List.{flat_map}
use Rattle.dp_tree.specs.declared.Expr.{Expr}
use Rattle.dp_tree.specs.declared.Stmt.{Stmt}
use Rattle.dp_tree.specs.declared.Program.{Program}
use Rattle.dp_plan.specs.Access.{Access, access_at, accesses, loaded_by, region_in}
pub use Rattle.dp_lean_code.specs.declared.access.SiteAccess.{SiteAccess}

-- the site as the code keeps it
abbrev pub row_of : Access → SiteAccess
row_of a = record { site = a.site; loads = a.loads; stores = a.stores }

-- .. and as the definitions have it
abbrev pub access_of : SiteAccess → Access
access_of r = record { site = r.site; loads = r.loads; stores = r.stores }

-- what an expression loads
unfoldable pub loaded_list : Expr → List ℕ
loaded_list e = loaded_by e

-- the statement's own site
unfoldable pub accessed_at : Stmt → List SiteAccess
accessed_at x = map row_of (access_at x)

-- those of a region
abbrev pub region_rows : Program → ℕ → List SiteAccess
region_rows p r = map row_of (flat_map accesses (region_in p r))
