-- The sites of a region in text order, each with what it loads and stores and what stands around it.
use Rattle.std.specs.Prelude.{ℕ, true, false, List, [], ◌∷◌, ◌++◌, Option, Some, None}
use Rattle.std.specs.List.{flat_map}
use Rattle.dp_base.specs.declared.SiteId.{SiteId}
use Rattle.dp_tree.specs.declared.Stmt.{Stmt, Row_of-Stmt, end_of-Stmt, more_of-Stmt}
use Rattle.dp_tree.specs.declared.Stmt.TheVariants.{Assign, Store, Print, If', While', Region', Break, Call}
use Rattle.dp_tree.specs.declared.Program.{Program}
use Rattle.dp_plan.specs.Access.{loaded_by, region_in}
pub use Rattle.dp_depend.specs.declared.nodes.Node.{Node}

-- a site that is no `if`, inside the statements of these conditions
abbrev pub plain_node : List ℕ → Option ℕ → SiteId → List ℕ → Option ℕ → Node
plain_node around loop site loads stores = record { site = site; is_if = false; loads = loads; stores = stores; around = around; outer_loop = loop }

abbrev pub if_node : List ℕ → Option ℕ → SiteId → List ℕ → Node
if_node around loop site loads = record { site = site; is_if = true; loads = loads; stores = None; around = around; outer_loop = loop }

-- the outermost inner `while` of the sites of this one
abbrev pub loop_of : Option ℕ → ℕ → ℕ
loop_of None site = site
loop_of (Some outermost) site = outermost

abbrev mutual
  -- the sites of a statement that stands inside the statements of these conditions, and in this outermost inner `while`
  pub nodes : List ℕ → Option ℕ → Stmt → List Node
  nodes around loop (Assign site x e) = plain_node around loop site (loaded_by e) (Some x.0) ∷ []
  nodes around loop (Store site x index e) = plain_node around loop site (loaded_by index ++ loaded_by e) (Some x.0) ∷ []
  nodes around loop (Print site e) = plain_node around loop site (loaded_by e) None ∷ []
  nodes around loop (Break site cond) = plain_node around loop site (loaded_by cond) None ∷ []
  nodes around loop (If' site cond _ then_part _ else_part) =
      if_node around loop site (loaded_by cond) ∷ (nodes_in (around ++ site.0 ∷ []) loop then_part ++ nodes_in (around ++ site.0 ∷ []) loop else_part)
  nodes around loop (While' site cond _ body) =
      plain_node around (Some (loop_of loop site.0)) site (loaded_by cond) None ∷ nodes_in (around ++ site.0 ∷ []) (Some (loop_of loop site.0)) body
  nodes around loop (Region' r site cond _ body) = plain_node around loop site (loaded_by cond) None ∷ nodes_in (around ++ site.0 ∷ []) loop body
  nodes around loop (Call f line args) = []

  -- those of several statements
  pub nodes_in : {n : _} → List ℕ → Option ℕ → Row_of-Stmt n → List Node
  nodes_in around loop end_of-Stmt = []
  nodes_in around loop (more_of-Stmt s rest) = nodes around loop s ++ nodes_in around loop rest

-- the sites of region r
abbrev pub region_nodes : Program → ℕ → List Node
region_nodes p r = flat_map (nodes [] None) (region_in p r)
