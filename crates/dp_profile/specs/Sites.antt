-- The sites of a program's regions in text order, each with whether a condition is evaluated there.
use Rattle.std.specs.Prelude.{ℕ, ◌==◌, Bool, true, false, List, [], ◌∷◌, map, filter}
use Rattle.std.specs.List.{list_any}
use Rattle.dp_base.specs.declared.SiteId.{SiteId}
use Rattle.dp_tree.specs.declared.Stmt.{Stmt}
use Rattle.dp_tree.specs.declared.Stmt.TheVariants.{Assign, Store, Print, If', While', Region', Break, Call}
use Rattle.dp_tree.specs.declared.Program.{Program}
use Rattle.dp_tree.specs.Statements.{asked}
use Rattle.dp_tree.specs.Numbering.{is_marked}
pub use Rattle.dp_profile.specs.declared.sites.RegionSite.{RegionSite}

abbrev pub region_site : SiteId → Bool → RegionSite
region_site site condition = record { site = site; condition = condition }

-- the statement's own site
abbrev pub site_at : Stmt → List RegionSite
site_at (Assign site x e) = region_site site false ∷ []
site_at (Store site x index e) = region_site site false ∷ []
site_at (Print site e) = region_site site false ∷ []
site_at (If' site cond _ then_part _ else_part) = region_site site true ∷ []
site_at (While' site cond _ body) = region_site site true ∷ []
site_at (Region' r site cond _ body) = region_site site true ∷ []
site_at (Break site cond) = region_site site true ∷ []
site_at (Call f line args) = []

-- the number is that of one of the sites
abbrev pub has_numbered_site : ℕ → List RegionSite → Bool
has_numbered_site n sites = list_any (λ s. s.site.0 == n) sites

-- the sites of a statement
abbrev pub sites : Stmt → List RegionSite
sites s = asked site_at s

-- those of each region; regions stand at the top of `main`, and count from 1
abbrev pub regions : Program → List (List RegionSite)
regions p = map sites (filter is_marked p.main)
