-- What walks over a region find, piece by piece.
use Rattle.std.specs.Prelude.{ℕ, List, [], filter, Option, None}
use Rattle.std.specs.List.{flat_map}
use Rattle.dp_tree.specs.declared.Expr.{Expr}
use Rattle.dp_tree.specs.declared.Stmt.{Stmt}
use Rattle.dp_plan.specs.Access.{loaded_by, is_region_at}
use Rattle.dp_depend.specs.Node.{Node, nodes}

-- the variables that an expression may load
unfoldable pub load_list : Expr → List ℕ
load_list e = loaded_by e

-- the sites of a statement
unfoldable pub node_list : List ℕ → Option ℕ → Stmt → List Node
node_list around loop s = nodes around loop s

-- those of several statements
unfoldable pub node_lists : List ℕ → Option ℕ → List Stmt → List Node
node_lists around loop all = flat_map (nodes around loop) all

-- those of region r
unfoldable pub nodes_in_region : ℕ → List Stmt → List Node
nodes_in_region r all = flat_map (nodes [] None) (filter (is_region_at r) all)
