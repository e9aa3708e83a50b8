-- What the events of a region amount to: they are those of its iterations.
use Rattle.std.specs.Prelude.{◌≡◌, ℕ, ◌-◌, ◌==◌, Bool, true, false, not, ◌&&◌, List, ◌∷◌, ◌++◌, ℤ, length, filter, Option, Some, None, slice_get, nat_le}
use Rattle.std.specs.List.{list_all}
use Rattle.dp_base.specs.declared.SiteId.{SiteId}
use Rattle.dp_tree.specs.declared.Expr.{Expr}
use Rattle.dp_tree.specs.declared.Stmt.{Stmt}
use Rattle.dp_tree.specs.declared.Stmt.TheVariants.{Assign, Store, Print, If', While', Region, Region', Break, Call}
use Rattle.dp_tree.specs.declared.RegionInfo.{RegionInfo}
use Rattle.dp_tree.specs.declared.Program.{Program}
use Rattle.dp_tree.specs.Statements.{everywhere}
use Rattle.dp_tree.specs.Step.{Event}
use Rattle.dp_tree.specs.Numbering.{is_inner}
use Rattle.dp_tree.specs.Trace.{run_of, begin}
use Rattle.dp_tree.specs.Iteration.{starts}
use Rattle.dp_tree.specs.IterationLaws.{events_of_first}

-- the site has one of the numbers of the table's entry
abbrev pub in_range : Option RegionInfo → ℕ → Bool
in_range None site = false
in_range (Some info) site = nat_le info.first.0 site && nat_le site info.last.0

-- the site is of region r, by the program's table
abbrev pub is_site_of : Program → ℕ → ℕ → Bool
is_site_of p r site = in_range (slice_get p.regions (r - 1)) site

-- the site is not of region r
abbrev pub is_other_site : Program → ℕ → ℕ → Bool
is_other_site p r site = not (is_site_of p r site)

-- the statement's own site passes the test, and the statement isn't region r
abbrev pub keeps_own : (ℕ → Bool) → ℕ → Stmt → Bool
keeps_own test r (Assign site x e) = test site.0
keeps_own test r (Store site x index e) = test site.0
keeps_own test r (Print site e) = test site.0
keeps_own test r (If' site cond _ then_part _ else_part) = test site.0
keeps_own test r (While' site cond _ body) = test site.0
keeps_own test r (Region' q site cond _ body) = test site.0 && not (q == r)
keeps_own test r (Break site cond) = test site.0
keeps_own test r (Call f line args) = true

-- each site of the statement passes the test, and region r doesn't stand in it
abbrev pub keeps : (ℕ → Bool) → ℕ → Stmt → Bool
keeps test r s = everywhere (keeps_own test r) s

-- Region r stands once in `main`, its sites are those of the table, and they stand nowhere else.
pub record StandsOnce (p : Program) (r : ℕ) : Type 0 where
  pub site : SiteId
  pub cond : Expr
  pub body : List Stmt
  pub before : List Stmt
  pub behind : List Stmt
  pub main_is : p.main ≡ before ++ Region r site cond body ∷ behind
  pub condition : is_site_of p r site.0 ≡ true
  pub inside : list_all (keeps (is_site_of p r) r) body ≡ true
  pub inner : list_all is_inner body ≡ true
  pub earlier : list_all (keeps (is_other_site p r) r) before ≡ true
  pub later : list_all (keeps (is_other_site p r) r) behind ≡ true

-- the event is at a site of region r
abbrev pub is_event_of : Program → ℕ → Event → Bool
is_event_of p r event = is_site_of p r event.site

-- The events at a region's sites are those of its iterations, one iteration after the other.
abbrev pub RegionsAreIterations : Program → List ℤ → Type 0
RegionsAreIterations p input = (fuel r : ℕ) → StandsOnce p r →
    filter (is_event_of p r) (run_of p input fuel (begin p)).trace
    ≡ events_of_first (run_of p input fuel (begin p)) r (length (starts (run_of p input fuel (begin p)) r))
