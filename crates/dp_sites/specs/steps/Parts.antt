-- The sites of a region one after the other, each with what it reads and stores, as the code keeps them.
use Rattle.std.specs.Prelude.{ℕ, ◌-◌, List, [], ◌∷◌, ◌++◌, map, length, Option, Some, None, slice_get}
use Rattle.std.specs.List.{flat_map}
use Rattle.dp_tree.specs.declared.Expr.{Expr}
use Rattle.dp_tree.specs.declared.Stmt.{Stmt, Row_of-Stmt, end_of-Stmt, more_of-Stmt}
use Rattle.dp_tree.specs.declared.Stmt.TheVariants.{Assign, Store, Print, If', While', Region', Break, Call}
use Rattle.dp_plan.specs.Touch.{Touch, reads}
use Rattle.dp_plan.specs.IsFar.{SiteTouch, whole, element}
use Rattle.dp_sites.specs.Lists.{site_list}
use Rattle.dp_sites.specs.Place.{Place, place_by}
pub use Rattle.dp_sites.specs.declared.touched.Touched.{Touched}
pub use Rattle.dp_sites.specs.declared.part.Part.{Part}

abbrev pub index_in : Option Expr → Option Place
index_in None = None
index_in (Some e) = place_by e

abbrev pub touched : Touch → Touched
touched t = record { var = record { 0 = t.variable }; place = index_in t.index }

abbrev pub touched_in : Option Touch → Option Touched
touched_in None = None
touched_in (Some t) = Some (touched t)

-- a site, and the last one of the outermost inner `while` that it stands in
abbrev pub part_of : Option ℕ → SiteTouch → Part
part_of until t = record { site = t.site; loads = map touched t.reads; stores = touched_in t.store; until = until }

-- the last of the statement's sites, where no `while` around it says a later one
abbrev pub until_in : Option ℕ → Stmt → Option ℕ
until_in (Some last) s = Some last
until_in None s = slice_get (site_list s) (length (site_list s) - 1)

abbrev mutual
  -- the sites of a statement, in text order
  pub parts : Option ℕ → Stmt → List Part
  parts until (Assign site x e) = part_of until (record { site = site.0; reads = reads e; store = Some (whole x.0) }) ∷ []
  parts until (Store site x index e) = part_of until (record { site = site.0; reads = reads index ++ reads e; store = Some (element x.0 index) }) ∷ []
  parts until (Print site e) = part_of until (record { site = site.0; reads = reads e; store = None }) ∷ []
  parts until (If' site cond _ then_part _ else_part) =
      part_of until (record { site = site.0; reads = reads cond; store = None }) ∷ (parts_in until then_part ++ parts_in until else_part)
  parts until (While' site cond h body) = part_of (until_in until (While' site cond h body)) (record { site = site.0; reads = reads cond; store = None })
      ∷ parts_in (until_in until (While' site cond h body)) body
  parts until (Region' r site cond _ body) = part_of until (record { site = site.0; reads = reads cond; store = None }) ∷ parts_in until body
  parts until (Break site cond) = part_of until (record { site = site.0; reads = reads cond; store = None }) ∷ []
  parts until (Call f line args) = []

  -- those of several statements
  pub parts_in : {n : _} → Option ℕ → Row_of-Stmt n → List Part
  parts_in until end_of-Stmt = []
  parts_in until (more_of-Stmt s rest) = parts until s ++ parts_in until rest

-- what the code asks of an expression, of a statement and of several
unfoldable pub loads_in : Expr → List Touched
loads_in e = map touched (reads e)

unfoldable pub part_list : Option ℕ → Stmt → List Part
part_list until s = parts until s

unfoldable pub part_lists : Option ℕ → List Stmt → List Part
part_lists until all = flat_map (parts until) all
