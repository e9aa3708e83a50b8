-- What the table of sites says of a text besides the lines: the kind and the region of each site, in text order.
use Rattle.std.specs.Prelude.{ℕ, List, [], ◌∷◌, ◌++◌, map, ◌≡◌}
use Rattle.std.specs.List.{flat_map}
use Rattle.dp_tree.specs.declared.Program.{Program}
use Rattle.dp_tree.specs.declared.SiteInfo.{SiteInfo}
use Rattle.dp_tree.specs.declared.SiteKind.{SiteKind}
use Rattle.dp_tree.specs.declared.SiteKind.TheVariants as kind
use Rattle.dp_tree.specs.declared.Stmt.{Stmt, Row_of-Stmt, end_of-Stmt, more_of-Stmt}
use Rattle.dp_tree.specs.declared.Stmt.TheVariants.{Assign, Store, Print, If', While', Region', Break, Call}

-- the kind and the region that an entry of the table has
abbrev pub role_of : SiteInfo → SiteKind × ℕ
role_of info = (info.kind, info.region)

abbrev mutual
  -- the kind and the region of each site of a statement in region r, or outside all regions where r is 0, in text order
  pub site_roles : ℕ → Stmt → List (SiteKind × ℕ)
  site_roles r (Assign site x e) = (kind.Assign, r) ∷ []
  site_roles r (Store site x index e) = (kind.Assign, r) ∷ []
  site_roles r (Print site e) = (kind.Print, r) ∷ []
  site_roles r (If' site cond _ then_part _ else_part) = (kind.If, r) ∷ (site_roles_in r then_part ++ site_roles_in r else_part)
  site_roles r (While' site cond _ body) = (kind.While, r) ∷ site_roles_in r body
  site_roles r (Region' q site cond _ body) = (kind.While, q) ∷ site_roles_in q body
  site_roles r (Break site cond) = (kind.Break, r) ∷ []
  site_roles r (Call f line args) = []

  pub site_roles_in : {n : _} → ℕ → Row_of-Stmt n → List (SiteKind × ℕ)
  site_roles_in r end_of-Stmt = []
  site_roles_in r (more_of-Stmt s rest) = site_roles r s ++ site_roles_in r rest

-- the same of a list
abbrev pub site_roles_all : ℕ → List Stmt → List (SiteKind × ℕ)
site_roles_all r [] = []
site_roles_all r (s ∷ rest) = site_roles r s ++ site_roles_all r rest

-- The table has the kind and the region of each site, those of `main` first.
abbrev pub SitesAsInText : Program → Type 0
SitesAsInText p = map role_of p.sites ≡ site_roles_all 0 p.main ++ flat_map (λ f. site_roles_all 0 f.body) p.functions
