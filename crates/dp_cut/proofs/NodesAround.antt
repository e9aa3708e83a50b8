-- What stands around the sites of a region: its conditions, each with the sites inside it.
use Rattle.std.proofs.Common.{◌≡◌, refl, subst, ◌∙◌, ℕ, ◌==◌, true, false, List, [], ◌∷◌, ◌++◌, map, Option, Some, None, eq-eqb}
use Rattle.std.specs.List.{flat_map}
use Rattle.std.proofs.lemmas.Bool.{or_left, or_right}
use Rattle.std.proofs.lemmas.List.Folds.{list_any-append}
use Rattle.dp_tree.specs.declared.Stmt.{Stmt, Row_of-Stmt, end_of-Stmt, more_of-Stmt}
use Rattle.dp_tree.specs.declared.Stmt.TheVariants as tree
use Rattle.dp_plan.specs.declared.Enclosing.{Enclosing}
use Rattle.dp_plan.specs.Enclosing.{ifs, ifs_in, inner_whiles, inner_whiles_in, sites_of}
use Rattle.dp_plan.specs.Each.{Each}
use Rattle.dp_plan.specs.Written.{has}
use Rattle.dp_plan.proofs.Found.{has_each}
use Rattle.dp_plan.proofs.EachLemmas.{each-lists, each_split}
use Rattle.dp_depend.specs.declared.nodes.Node.{Node}
use Rattle.dp_depend.specs.Edges.{node_site}
use Rattle.dp_depend.specs.Node.{loop_of, nodes, nodes_in}
use Rattle.dp_depend.proofs.NodeSites.{sites_of_row}

has_more : (x y : ℕ) (xs : List ℕ) → has x xs ≡ true → has x (xs ++ y ∷ []) ≡ true
has_more x y xs e = list_any-append (λ n. n == x) xs (y ∷ []) ∙ or_left (has x xs) (has x (y ∷ [])) e

has_last : (x : ℕ) (xs : List ℕ) → has x (xs ++ x ∷ []) ≡ true
has_last x xs = list_any-append (λ n. n == x) xs (x ∷ []) ∙ or_right (has x xs) (has x (x ∷ [])) (or_left (x == x) false (eq-eqb x x refl))

-- the condition stands around the site
abbrev pub Around : ℕ → Node → Type 0
Around x u = has x u.around ≡ true

mutual
  -- what stands around a statement stands around its sites
  around_one : (x : ℕ) (around : List ℕ) (loop : Option ℕ) (s : Stmt) → has x around ≡ true → Each (Around x) (nodes around loop s)
  around_one x around loop (tree.Assign site v e) h = (h, tt)
  around_one x around loop (tree.Store site v i e) h = (h, tt)
  around_one x around loop (tree.Print site e) h = (h, tt)
  around_one x around loop (tree.Break site e) h = (h, tt)
  around_one x around loop (tree.Call f line args) h = tt
  around_one x around loop (tree.If' site cond _ a _ b) h =
      let inner = around ++ site.0 ∷ [] in
      let more = has_more x site.0 around h in
      (h, each-lists (Around x) (nodes_in inner loop a) (nodes_in inner loop b) (around_row x inner loop a more) (around_row x inner loop b more))
  around_one x around loop (tree.While' site cond _ a) h = (h, around_row x (around ++ site.0 ∷ []) (Some (loop_of loop site.0)) a (has_more x site.0 around h))
  around_one x around loop (tree.Region' r site cond _ a) h = (h, around_row x (around ++ site.0 ∷ []) loop a (has_more x site.0 around h))

  around_row : {n : _} (x : ℕ) (around : List ℕ) (loop : Option ℕ) (row : Row_of-Stmt n) → has x around ≡ true → Each (Around x) (nodes_in around loop row)
  around_row x around loop end_of-Stmt h = tt
  around_row x around loop (more_of-Stmt s rest) h =
      each-lists (Around x) (nodes around loop s) (nodes_in around loop rest) (around_one x around loop s h) (around_row x around loop rest h)

pub around_all : (x : ℕ) (around : List ℕ) (loop : Option ℕ) (all : List Stmt) → has x around ≡ true → Each (Around x) (flat_map (nodes around loop) all)
around_all x around loop [] h = tt
around_all x around loop (s ∷ rest) h =
    each-lists (Around x) (nodes around loop s) (flat_map (nodes around loop) rest) (around_one x around loop s h) (around_all x around loop rest h)

-- ---- what is so of each site and the conditions around it is so of each condition and the sites inside it

module _ (P : ℕ → ℕ → Type 0) (Q : ℕ → Type 0) where
  -- of the site and the conditions around it, and of the site itself where it is no `if`
  abbrev pub Outside : Node → Type 0
  Outside u = (u.is_if ≡ false → Q u.site.0) × Each (λ x. P x u.site.0) u.around

  -- of the condition and the sites inside it
  abbrev pub Inside : Enclosing → Type 0
  Inside e = Each (P e.site) e.inside

  -- .. which is no `if`
  abbrev pub PlainInside : Enclosing → Type 0
  PlainInside e = Q e.site × Each (P e.site) e.inside

  under : (x : ℕ) (all : List Node) → Each (Around x) all → Each Outside all → Each (P x) (map node_site all)
  under x [] around h = tt
  under x (u ∷ rest) around h = (has_each (λ y. P y u.site.0) u.around x h.0.1 around.0, under x rest around.1 h.1)

  under_row : {n : _} (x : ℕ) (around : List ℕ) (loop : Option ℕ) (row : Row_of-Stmt n) → has x around ≡ true → Each Outside (nodes_in around loop row) →
      Each (P x) (sites_of row)
  under_row x around loop row e h =
      subst (λ (l : List ℕ). Each (P x) l) (sites_of_row around loop row) (under x (nodes_in around loop row) (around_row x around loop row e) h)

  mutual
    inside_ifs : (around : List ℕ) (loop : Option ℕ) (s : Stmt) → Each Outside (nodes around loop s) → Each Inside (ifs s)
    inside_ifs around loop (tree.If' site cond _ a _ b) h =
        let inner = around ++ site.0 ∷ [] in
        let last = has_last site.0 around in
        let both = each_split Outside (nodes_in inner loop a) (nodes_in inner loop b) h.1 in (
          each-lists (P site.0) (sites_of a) (sites_of b) (under_row site.0 inner loop a last both.0) (under_row site.0 inner loop b last both.1),
          each-lists Inside (ifs_in a) (ifs_in b) (inside_ifs_in inner loop a both.0) (inside_ifs_in inner loop b both.1),
        )
    inside_ifs around loop (tree.While' site cond _ a) h = inside_ifs_in (around ++ site.0 ∷ []) (Some (loop_of loop site.0)) a h.1
    inside_ifs around loop (tree.Region' r site cond _ a) h = inside_ifs_in (around ++ site.0 ∷ []) loop a h.1
    inside_ifs around loop _ h = tt

    inside_ifs_in : {n : _} (around : List ℕ) (loop : Option ℕ) (row : Row_of-Stmt n) → Each Outside (nodes_in around loop row) → Each Inside (ifs_in row)
    inside_ifs_in around loop end_of-Stmt h = tt
    inside_ifs_in around loop (more_of-Stmt s rest) h =
        let both = each_split Outside (nodes around loop s) (nodes_in around loop rest) h in
        each-lists Inside (ifs s) (ifs_in rest) (inside_ifs around loop s both.0) (inside_ifs_in around loop rest both.1)

  mutual
    inside_whiles : (around : List ℕ) (loop : Option ℕ) (s : Stmt) → Each Outside (nodes around loop s) → Each PlainInside (inner_whiles s)
    inside_whiles around loop (tree.If' site cond _ a _ b) h =
        let inner = around ++ site.0 ∷ [] in
        let both = each_split Outside (nodes_in inner loop a) (nodes_in inner loop b) h.1 in
        each-lists PlainInside (inner_whiles_in a) (inner_whiles_in b) (inside_whiles_in inner loop a both.0) (inside_whiles_in inner loop b both.1)
    inside_whiles around loop (tree.While' site cond _ a) h =
        let inner = around ++ site.0 ∷ [] in (
          (h.0.0 refl, under_row site.0 inner (Some (loop_of loop site.0)) a (has_last site.0 around) h.1),
          inside_whiles_in inner (Some
              (loop_of loop site.0)) a h.1,
        )
    inside_whiles around loop (tree.Region' r site cond _ a) h = inside_whiles_in (around ++ site.0 ∷ []) loop a h.1
    inside_whiles around loop _ h = tt

    inside_whiles_in : {n : _} (around : List ℕ) (loop : Option ℕ) (row : Row_of-Stmt n) → Each Outside (nodes_in around loop row) →
        Each PlainInside (inner_whiles_in row)
    inside_whiles_in around loop end_of-Stmt h = tt
    inside_whiles_in around loop (more_of-Stmt s rest) h =
        let both = each_split Outside (nodes around loop s) (nodes_in around loop rest) h in
        each-lists PlainInside (inner_whiles s) (inner_whiles_in rest) (inside_whiles around loop s both.0) (inside_whiles_in around loop rest both.1)

  pub all_ifs : (all : List Stmt) → Each Outside (flat_map (nodes [] None) all) → Each Inside (flat_map ifs all)
  all_ifs [] h = tt
  all_ifs (s ∷ rest) h =
      let both = each_split Outside (nodes [] None s) (flat_map (nodes [] None) rest) h in
      each-lists Inside (ifs s) (flat_map ifs rest) (inside_ifs [] None s both.0) (all_ifs rest both.1)

  pub all_whiles : (all : List Stmt) → Each Outside (flat_map (nodes [] None) all) → Each PlainInside (flat_map inner_whiles all)
  all_whiles [] h = tt
  all_whiles (s ∷ rest) h =
      let both = each_split Outside (nodes [] None s) (flat_map (nodes [] None) rest) h in
      each-lists PlainInside (inner_whiles s) (flat_map inner_whiles rest) (inside_whiles [] None s both.0) (all_whiles rest both.1)
