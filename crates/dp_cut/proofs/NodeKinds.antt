-- The conditions around the sites of a region are sites, and those that are an `if` are the region's.
use Rattle.std.proofs.Common.{◌≡◌, ℕ, true, List, [], ◌∷◌, ◌++◌, map, Option, Some, None}
use Rattle.std.specs.List.{flat_map}
use Rattle.dp_tree.specs.declared.Program.{Program}
use Rattle.dp_tree.specs.declared.Stmt.{Stmt, Row_of-Stmt, end_of-Stmt, more_of-Stmt}
use Rattle.dp_tree.specs.declared.Stmt.TheVariants as tree
use Rattle.dp_plan.specs.Access.{region_in}
use Rattle.dp_plan.specs.declared.Enclosing.{Enclosing}
use Rattle.dp_plan.specs.Enclosing.{ifs, ifs_in, region_ifs}
use Rattle.dp_plan.specs.Each.{Each}
use Rattle.dp_plan.specs.Rules.{site_of_condition}
use Rattle.dp_plan.specs.Written.{has}
use Rattle.dp_plan.proofs.Found.{each_has}
use Rattle.dp_plan.proofs.EachLemmas.{each-lists, each_split}
use Rattle.dp_depend.specs.declared.nodes.Node.{Node}
use Rattle.dp_depend.specs.Edges.{node_site}
use Rattle.dp_depend.specs.Node.{loop_of, nodes, nodes_in, region_nodes}

-- what is so of each image is so of each element by its image
pub each_off : {X : Type 0} (f : X → ℕ) (P : ℕ → Type 0) (xs : List X) → Each P (map f xs) → Each (λ x. P (f x)) xs
each_off f P [] h = tt
each_off f P (x ∷ xs) h = (h.0, each_off f P xs h.1)

-- ---- conditions around sites

module _ (Is : ℕ → Type 0) where
  abbrev At : Node → Type 0
  At u = Is u.site.0

  abbrev Conditions : Node → Type 0
  Conditions u = Each Is u.around

  one_more : (around : List ℕ) (x : ℕ) → Each Is around → Is x → Each Is (around ++ x ∷ [])
  one_more around x h is = each-lists Is around (x ∷ []) h (is, tt)

  mutual
    conditions : (around : List ℕ) (loop : Option ℕ) (s : Stmt) → Each Is around → Each At (nodes around loop s) → Each Conditions (nodes around loop s)
    conditions around loop (tree.Assign site v e) h is = (h, tt)
    conditions around loop (tree.Store site v i e) h is = (h, tt)
    conditions around loop (tree.Print site e) h is = (h, tt)
    conditions around loop (tree.Break site e) h is = (h, tt)
    conditions around loop (tree.Call f line args) h is = tt
    conditions around loop (tree.If' site cond _ a _ b) h is =
        let inner = around ++ site.0 ∷ [] in
        let more = one_more around site.0 h is.0 in
        let both = each_split At (nodes_in inner loop a) (nodes_in inner loop b) is.1 in (
          h,
          each-lists Conditions (nodes_in inner loop a) (nodes_in inner loop b) (conditions_in inner loop a more both.0) (conditions_in inner
              loop b more both.1),
        )
    conditions around loop (tree.While' site cond _ a) h is =
        (h, conditions_in (around ++ site.0 ∷ []) (Some (loop_of loop site.0)) a (one_more around site.0 h is.0) is.1)
    conditions around loop (tree.Region' r site cond _ a) h is = (h, conditions_in (around ++ site.0 ∷ []) loop a (one_more around site.0 h is.0) is.1)

    conditions_in : {n : _} (around : List ℕ) (loop : Option ℕ) (row : Row_of-Stmt n) → Each Is around → Each At (nodes_in around loop row) →
        Each Conditions (nodes_in around loop row)
    conditions_in around loop end_of-Stmt h is = tt
    conditions_in around loop (more_of-Stmt s rest) h is =
        let both = each_split At (nodes around loop s) (nodes_in around loop rest) is in
        each-lists Conditions (nodes around loop s) (nodes_in around loop rest) (conditions around loop s h both.0) (conditions_in around loop rest h both.1)

  conditions_all : (all : List Stmt) → Each At (flat_map (nodes [] None) all) → Each Conditions (flat_map (nodes [] None) all)
  conditions_all [] is = tt
  conditions_all (s ∷ rest) is =
      let both = each_split At (nodes [] None s) (flat_map (nodes [] None) rest) is in
      each-lists Conditions (nodes [] None s) (flat_map (nodes [] None) rest) (conditions [] None s tt both.0) (conditions_all rest both.1)

-- each condition around a site of region r is a site of it
pub conditions_are_sites : (p : Program) (r : ℕ) → Each (λ (u : Node). Each (λ x. has x (map node_site (region_nodes p r)) ≡ true) u.around) (region_nodes p r)
conditions_are_sites p r =
    let sites = map node_site (region_nodes p r) in
    conditions_all (λ x. has x (map node_site (region_nodes p r)) ≡ true) (region_in p r)
    (each_off node_site (λ x. has x (map node_site (region_nodes p r)) ≡ true) (region_nodes p r) (each_has sites))

-- ---- sites that are an `if`

module _ (R : ℕ → Type 0) where
  abbrev AtCondition : Enclosing → Type 0
  AtCondition e = R e.site

  abbrev WhereIf : Node → Type 0
  WhereIf u = u.is_if ≡ true → R u.site.0

  mutual
    ifs_are : (around : List ℕ) (loop : Option ℕ) (s : Stmt) → Each AtCondition (ifs s) → Each WhereIf (nodes around loop s)
    ifs_are around loop (tree.Assign site v e) h = (λ on. absurd (cc on), tt)
    ifs_are around loop (tree.Store site v i e) h = (λ on. absurd (cc on), tt)
    ifs_are around loop (tree.Print site e) h = (λ on. absurd (cc on), tt)
    ifs_are around loop (tree.Break site e) h = (λ on. absurd (cc on), tt)
    ifs_are around loop (tree.Call f line args) h = tt
    ifs_are around loop (tree.If' site cond _ a _ b) h =
        let inner = around ++ site.0 ∷ [] in
        let both = each_split AtCondition (ifs_in a) (ifs_in b) h.1 in
        (λ on. h.0, each-lists WhereIf (nodes_in inner loop a) (nodes_in inner loop b) (ifs_are_in inner loop a both.0) (ifs_are_in inner loop b both.1))
    ifs_are around loop (tree.While' site cond _ a) h = (λ on. absurd (cc on), ifs_are_in (around ++ site.0 ∷ []) (Some (loop_of loop site.0)) a h)
    ifs_are around loop (tree.Region' r site cond _ a) h = (λ on. absurd (cc on), ifs_are_in (around ++ site.0 ∷ []) loop a h)

    ifs_are_in : {n : _} (around : List ℕ) (loop : Option ℕ) (row : Row_of-Stmt n) → Each AtCondition (ifs_in row) → Each WhereIf (nodes_in around loop row)
    ifs_are_in around loop end_of-Stmt h = tt
    ifs_are_in around loop (more_of-Stmt s rest) h =
        let both = each_split AtCondition (ifs s) (ifs_in rest) h in
        each-lists WhereIf (nodes around loop s) (nodes_in around loop rest) (ifs_are around loop s both.0) (ifs_are_in around loop rest both.1)

  ifs_are_all : (all : List Stmt) → Each AtCondition (flat_map ifs all) → Each WhereIf (flat_map (nodes [] None) all)
  ifs_are_all [] h = tt
  ifs_are_all (s ∷ rest) h =
      let both = each_split AtCondition (ifs s) (flat_map ifs rest) h in
      each-lists WhereIf (nodes [] None s) (flat_map (nodes [] None) rest) (ifs_are [] None s both.0) (ifs_are_all rest both.1)

-- a site of region r that is an `if` is one of its `if` statements
pub if_nodes : (p : Program) (r : ℕ) → Each (λ (u : Node). u.is_if ≡ true → has u.site.0 (map site_of_condition (region_ifs p r)) ≡ true) (region_nodes p r)
if_nodes p r =
    let conditions = map site_of_condition (region_ifs p r) in
    ifs_are_all (λ x. has x (map site_of_condition (region_ifs p r)) ≡ true) (region_in p r)
    (each_off site_of_condition (λ x. has x (map site_of_condition (region_ifs p r)) ≡ true) (region_ifs p r) (each_has conditions))
