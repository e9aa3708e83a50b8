-- The sites of a statement by its form, and of a list, item by item.
use Rattle.std.proofs.Common.{◌≡◌, refl, ◌∙◌, ap, ℕ, ◌+◌, ◌<◌, true, false, List, [], ◌∷◌, ◌++◌, drop, get_or, length, append-nil, Option, Some, None}
use Rattle.std.specs.List.{flat_map}
use Rattle.dp_base.specs.declared.SiteId.{SiteId}
use Rattle.dp_base.specs.declared.VarId.{VarId}
use Rattle.dp_tree.specs.declared.Expr.{Expr}
use Rattle.dp_tree.specs.declared.Stmt.{Stmt}
use Rattle.dp_tree.specs.declared.Stmt.TheVariants as tree
use Rattle.dp_tree.specs.declared.Program.{Program}
use Rattle.dp_plan.specs.Access.{is_region_at}
use Rattle.dp_plan.specs.Walks.{is_region_of}
use Rattle.dp_plan.proofs.LoadLemmas.{opened}
use Rattle.dp_depend.specs.Node.{nodes, nodes_in, plain_node, if_node, loop_of, region_nodes}
use Rattle.dp_depend.specs.Lists.{load_list, node_list, node_lists, nodes_in_region}
use Rattle.dp_room.proofs.ListLemmas.{next_of}

nodes_hidden : (around : List ℕ) (loop : Option ℕ) (xs : List Stmt) →
    nodes_in around loop (Rattle.dp_tree.specs.declared.Stmt.TheBlock.hidden-the_row-Stmt-0 xs) ≡ flat_map (nodes around loop) xs
unfolding opened
nodes_hidden around loop [] = refl
nodes_hidden around loop (x ∷ xs) = ap (λ r. nodes around loop x ++ r) (nodes_hidden around loop xs)

module _ (around : List ℕ) (loop : Option ℕ) where
  pub nodes-Assign : (site : SiteId) (x : VarId) (e : Expr) → node_list around loop (tree.Assign site x e) ≡ plain_node around loop site
      (load_list e) (Some x.0) ∷ []
  unfolding node_list load_list
  nodes-Assign site x e = refl

  pub nodes-Store : (site : SiteId) (x : VarId) (i e : Expr) → node_list around loop (tree.Store site x i e) ≡ plain_node around loop site
      (load_list i ++ load_list e) (Some x.0) ∷ []
  unfolding node_list load_list
  nodes-Store site x i e = refl

  pub nodes-Print : (site : SiteId) (e : Expr) → node_list around loop (tree.Print site e) ≡ plain_node around loop site (load_list e) None ∷ []
  unfolding node_list load_list
  nodes-Print site e = refl

  pub nodes-Break : (site : SiteId) (e : Expr) → node_list around loop (tree.Break site e) ≡ plain_node around loop site (load_list e) None ∷ []
  unfolding node_list load_list
  nodes-Break site e = refl

  pub nodes-Call : (f line : ℕ) (args : List Expr) → node_list around loop (tree.Call f line args) ≡ []
  unfolding node_list
  nodes-Call f line args = refl

  pub nodes-If : (site : SiteId) (e : Expr) (a b : List Stmt)
      → node_list around loop (tree.If site e a b) ≡ if_node around loop site (load_list e)
      ∷ (node_lists (around ++ site.0 ∷ []) loop a ++ node_lists (around ++ site.0 ∷ []) loop b)
  unfolding node_list node_lists load_list opened
  nodes-If site e a b =
      ap (λ r. if_node around loop site (load_list e)
      ∷ (r ++ nodes_in (around ++ site.0 ∷ []) loop (Rattle.dp_tree.specs.declared.Stmt.TheBlock.hidden-the_row-Stmt-0 b)))
      (nodes_hidden (around ++ site.0 ∷ []) loop a)
      ∙ ap (λ r. if_node around loop site (load_list e) ∷ (flat_map (nodes (around ++ site.0 ∷ []) loop) a ++ r)) (nodes_hidden (around ++ site.0 ∷ []) loop b)

  pub nodes-While : (site : SiteId) (e : Expr) (a : List Stmt)
      → node_list around loop (tree.While site e a)
      ≡ plain_node around (Some (loop_of loop site.0)) site (load_list e) None ∷ node_lists (around ++ site.0 ∷ []) (Some (loop_of loop site.0)) a
  unfolding node_list node_lists load_list opened
  nodes-While site e a =
      ap (λ r. plain_node around (Some (loop_of loop site.0)) site (load_list e) None ∷ r) (nodes_hidden (around ++ site.0 ∷ []) (Some (loop_of loop site.0)) a)

  pub nodes-Region : (r : ℕ) (site : SiteId) (e : Expr) (a : List Stmt)
      → node_list around loop (tree.Region r site e a) ≡ plain_node around loop site (load_list e) None ∷ node_lists (around ++ site.0 ∷ []) loop a
  unfolding node_list node_lists load_list opened
  nodes-Region r site e a = ap (λ r. plain_node around loop site (load_list e) None ∷ r) (nodes_hidden (around ++ site.0 ∷ []) loop a)

pub ruleset node_forms = (nodes-Assign, nodes-Store, nodes-Print, nodes-Break, nodes-Call, append-nil)

pub nodes-none : (around : List ℕ) (loop : Option ℕ) → node_lists around loop [] ≡ []
unfolding node_lists
nodes-none around loop = refl

pub nodes-next : (around : List ℕ) (loop : Option ℕ) (all : List Stmt) (i : ℕ) (s : Stmt) → i < length all → s ≡ get_or all i s
    → node_lists around loop (drop i all) ≡ node_list around loop s ++ node_lists around loop (drop (i + 1) all)
unfolding node_lists node_list
nodes-next around loop all i s h is = ap (flat_map (nodes around loop)) (next_of all i s h is)

region_case : (r : ℕ) (s : Stmt) (rest : List Stmt) → is_region_at r s ≡ true → nodes_in_region r (s ∷ rest) ≡ node_list [] None s ++ nodes_in_region r rest
unfolding nodes_in_region node_list
region_case r s rest e = rw e refl

skip_case : (r : ℕ) (s : Stmt) (rest : List Stmt) → is_region_at r s ≡ false → nodes_in_region r (s ∷ rest) ≡ nodes_in_region r rest
unfolding nodes_in_region
skip_case r s rest e = rw e refl

pub region-none : (r : ℕ) → nodes_in_region r [] ≡ []
unfolding nodes_in_region
region-none r = refl

pub region-next : (r : ℕ) (all : List Stmt) (i : ℕ) (s : Stmt) → i < length all → s ≡ get_or all i s → is_region_of r s ≡ true
    → nodes_in_region r (drop i all) ≡ node_list [] None s ++ nodes_in_region r (drop (i + 1) all)
unfolding is_region_of
region-next r all i s h is e = ap (nodes_in_region r) (next_of all i s h is) ∙ region_case r s (drop (i + 1) all) e

pub region-skip : (r : ℕ) (all : List Stmt) (i : ℕ) (s : Stmt) → i < length all → s ≡ get_or all i s → is_region_of r s ≡ false
    → nodes_in_region r (drop i all) ≡ nodes_in_region r (drop (i + 1) all)
unfolding is_region_of
region-skip r all i s h is e = ap (nodes_in_region r) (next_of all i s h is) ∙ skip_case r s (drop (i + 1) all) e

-- region r of the program's statements
pub region_is : (p : Program) (r : ℕ) → nodes_in_region r p.main ≡ region_nodes p r
unfolding nodes_in_region
region_is p r = refl
