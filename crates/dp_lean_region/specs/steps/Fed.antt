-- The stores of a region, for the question whether a stage may load what it stored itself.
use Rattle.std.specs.Prelude.{ℕ, ◌==◌, Bool, not, ◌&&◌, List, [], ◌∷◌}
use Rattle.std.specs.List.{list_any, flat_map}
use Rattle.dp_tree.specs.declared.Stmt.{Stmt}
use Rattle.dp_tree.specs.declared.Stmt.TheVariants.{Assign, Store, Print, If', While', Region', Break, Call}
use Rattle.dp_tree.specs.declared.Program.{Program}
use Rattle.dp_tree.specs.Statements.{asked}
use Rattle.dp_plan.specs.declared.Plan.{Plan}
use Rattle.dp_plan.specs.Access.{stage_of, is_replicated, is_body_local, region_in}
use Rattle.dp_lean_code.specs.declared.tables.LeanTables.{LeanTables}
use Rattle.dp_lean_code.specs.steps.Looked.{known_of}
use Rattle.dp_lean_region.specs.declared.feeding.SiteStore.{SiteStore}

-- the statement's own store, if it is one
unfoldable pub stored_at : Stmt → List SiteStore
stored_at (Assign site x e) = record { site = site; var = x } ∷ []
stored_at (Store site x index e) = record { site = site; var = x } ∷ []
stored_at (Print site e) = []
stored_at (If' site cond _ then_part _ else_part) = []
stored_at (While' site cond _ body) = []
stored_at (Region' r site cond _ body) = []
stored_at (Break site cond) = []
stored_at (Call f line args) = []

-- those of region r
abbrev pub region_stores : Program → ℕ → List SiteStore
region_stores p r = flat_map (asked stored_at) (region_in p r)

-- the store is stage s's own, of a variable that it does stores to, and that outlives the iteration
abbrev pub feeds_by : Program → Plan → LeanTables → ℕ → SiteStore → Bool
feeds_by p plan tables s a = (stage_of p plan a.site.0 == s) && ((known_of p plan tables s).done a.var.0 && not (is_body_local p plan a.var.0))

-- .. one of these is
abbrev pub feeds_among : Program → Plan → LeanTables → ℕ → List SiteStore → Bool
feeds_among p plan tables s stores = list_any (feeds_by p plan tables s) stores

-- the stage isn't replicated, or doesn't feed itself with one of these
abbrev pub keeps_among : Program → Plan → LeanTables → ℕ → List SiteStore → Bool
keeps_among p plan tables s stores = not (is_replicated plan s && feeds_among p plan tables s stores)
