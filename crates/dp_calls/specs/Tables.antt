-- The tables of an expanded program while its text is written: each variable, site and region comes next.
use Rattle.std.specs.Prelude.{ℕ, zero, suc, ◌-◌, List, [], ◌∷◌, ◌++◌, length, Option, Some, None, slice_get}
use Rattle.dp_base.specs.declared.SiteId.{SiteId}
use Rattle.dp_tree.specs.declared.VarInfo.{VarInfo}
use Rattle.dp_tree.specs.declared.VarScope.{VarScope}
use Rattle.dp_tree.specs.declared.VarScope.TheVariants.{Outer, Body}
use Rattle.dp_tree.specs.declared.SiteInfo.{SiteInfo}
use Rattle.dp_tree.specs.declared.RegionInfo.{RegionInfo}
use Rattle.dp_tree.specs.declared.Program.{Program}
use Rattle.dp_tree.specs.Globals.{globals_in}
use Rattle.dp_calls.specs.Frame.{global_count}

-- the variables with the number of their cells, the sites and the regions, as far as the text is written
pub record Tables : Type 0 where
  pub vars : List VarInfo
  pub cells : ℕ
  pub sites : List SiteInfo
  pub regions : List RegionInfo

-- before the text of `main`: the file-scope variables, with their own cells
abbrev pub first_tables : Program → Tables
first_tables p = record { vars = globals_in p.vars; cells = global_count p; sites = []; regions = [] }

-- where a local is declared: in the body of region r, or outside all regions where r is 0
abbrev pub scope_in : ℕ → VarScope
scope_in zero = Outer
scope_in (suc r) = Body (suc r)

-- the variable's entry, with another cell and scope
abbrev pub moved_to : Option VarInfo → ℕ → ℕ → List VarInfo
moved_to None cell r = []
moved_to (Some info) cell r = record info { first = record { 0 = cell }; scope = scope_in r } ∷ []

-- The next variable is this local or parameter, declared in region r, with the next cell.
abbrev pub with_local : Program → ℕ → ℕ → Tables → Tables
with_local p r x t = record t { vars = t.vars ++ moved_to (slice_get p.vars x) t.cells r; cells = suc t.cells }

-- The next site has this line and kind.
abbrev pub with_site : SiteInfo → Tables → Tables
with_site info t = record t { sites = t.sites ++ info ∷ [] }

-- the site's entry, in region r
abbrev pub site_entry : Option SiteInfo → ℕ → List SiteInfo
site_entry None r = []
site_entry (Some info) r = record info { region = r } ∷ []

-- The next site is this one of the program's text, with its line and kind, in region r.
abbrev pub with_source_site : Program → ℕ → SiteId → Tables → Tables
with_source_site p r site t = record t { sites = t.sites ++ site_entry (slice_get p.sites (site.0 - 1)) r }

-- the number of the next site
abbrev pub new_site : Tables → SiteId
new_site t = record { 0 = suc (length t.sites) }

-- The next region has this line and first site, and ends with the last site so far.
abbrev pub with_region : ℕ → SiteId → Tables → Tables
with_region line first t = record t { regions = t.regions ++ record { line = line; first = first; last = record { 0 = length t.sites } } ∷ [] }
