-- The nodes of a region are its sites, in text order.
use Rattle.std.proofs.Common.{◌≡◌, refl, sym, ◌∙◌, ap, ℕ, zero, suc, ◌<◌, ◌==◌, Bool, true, ◌||◌, List, [], ◌∷◌, ◌++◌, map, length, get_or, Option, None, arith}
use Rattle.std.proofs.Common.{eq-eqb}
use Rattle.std.specs.List.{flat_map}
use Rattle.std.proofs.lemmas.Bool.{or_right}
use Rattle.std.proofs.lemmas.List.{map-append}
use Rattle.dp_tree.specs.declared.Program.{Program}
use Rattle.dp_tree.specs.declared.Stmt.{Stmt, Row_of-Stmt, end_of-Stmt, more_of-Stmt}
use Rattle.dp_tree.specs.declared.Stmt.TheVariants as tree
use Rattle.dp_plan.specs.Access.{Access, accesses, accesses_in, region_in}
use Rattle.dp_plan.specs.Written.{has, region_sites, access_site}
use Rattle.dp_depend.specs.Edges.{node_site}
use Rattle.dp_depend.specs.Node.{Node, loop_of, nodes, nodes_in, region_nodes}

-- lists of the same sites, joined
joined : (a b : List Node) (xs ys : List Access) → map node_site a ≡ map access_site xs → map node_site b ≡ map access_site ys →
    map node_site (a ++ b) ≡ map access_site (xs ++ ys)
joined a b xs ys first second =
    map-append node_site a b ∙ ap (λ (l : List ℕ). l ++ map node_site b) first ∙ ap (λ (l : List ℕ). map access_site xs ++ l) second
    ∙ sym (map-append access_site xs ys)

mutual
  sites_of_one : (around : List ℕ) (loop : Option ℕ) (x : Stmt) → map node_site (nodes around loop x) ≡ map access_site (accesses x)
  sites_of_one around loop (tree.If' site cond _ a _ b) =
      ap (λ (l : List ℕ). site.0 ∷ l) (joined (nodes_in (around ++ site.0 ∷ []) loop a) (nodes_in (around ++ site.0 ∷ []) loop b) (accesses_in a)
      (accesses_in b) (sites_of_row (around ++ site.0 ∷ []) loop a) (sites_of_row (around ++ site.0 ∷ []) loop b))
  sites_of_one around loop (tree.While' site cond _ a) =
      ap (λ (l : List ℕ). site.0 ∷ l) (sites_of_row (around ++ site.0 ∷ []) (Rattle.std.proofs.Common.Some (loop_of loop site.0)) a)
  sites_of_one around loop (tree.Region' r site cond _ a) = ap (λ (l : List ℕ). site.0 ∷ l) (sites_of_row (around ++ site.0 ∷ []) loop a)
  sites_of_one around loop _ = refl

  pub sites_of_row : {n : _} (around : List ℕ) (loop : Option ℕ) (row : Row_of-Stmt n) →
      map node_site (nodes_in around loop row) ≡ map access_site (accesses_in row)
  sites_of_row around loop end_of-Stmt = refl
  sites_of_row around loop (more_of-Stmt x rest) =
      joined (nodes around loop x) (nodes_in around loop rest) (accesses x) (accesses_in rest) (sites_of_one around loop x) (sites_of_row around loop rest)

sites_of_all : (all : List Stmt) → map node_site (flat_map (nodes [] None) all) ≡ map access_site (flat_map accesses all)
sites_of_all [] = refl
sites_of_all (x ∷ rest) =
    joined (nodes [] None x) (flat_map (nodes [] None) rest) (accesses x) (flat_map accesses rest) (sites_of_one [] None x) (sites_of_all rest)

pub node_sites : (p : Program) (r : ℕ) → map node_site (region_nodes p r) ≡ region_sites p r
node_sites p r = sites_of_all (region_in p r)

-- an item's site is one of these
pub item_has : (all : List Node) (i : ℕ) (n : Node) → i < length all → n ≡ get_or all i n → has n.site.0 (map node_site all) ≡ true
item_has [] i n lt e = absurd (omega (arith, lt))
item_has (m ∷ all) zero n lt e = ap (λ (b : Bool). b || has n.site.0 (map node_site all)) (eq-eqb m.site.0 n.site.0 (ap node_site (sym e)))
item_has (m ∷ all) (suc i) n lt e = or_right (m.site.0 == n.site.0) (has n.site.0 (map node_site all)) (item_has all i n (omega (arith, lt)) e)
