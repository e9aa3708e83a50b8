-- The condition of a region is its first site, no `if`, and stands around all others.
use Rattle.std.proofs.Common.{◌≡◌, refl, sym, ap, subst, ◌∙◌, ℕ, ◌+◌, ◌<◌, ◌≤◌, ◌==◌, true, false, List, [], ◌∷◌, ◌++◌, append-nil, length, None, eq-eqb}
use Rattle.std.specs.List.{flat_map}
use Rattle.std.proofs.lemmas.Bool.{or_left}
use Rattle.dp_tree.specs.declared.Program.{Program}
use Rattle.dp_tree.specs.declared.Stmt.{Stmt}
use Rattle.dp_tree.specs.declared.Stmt.TheVariants as tree
use Rattle.dp_tree.specs.Inlined.{IsInlined}
use Rattle.dp_plan.specs.Each.{Each}
use Rattle.dp_plan.specs.Written.{has}
use Rattle.dp_plan.proofs.Ascent.{Ascends, ascends-numbers_from}
use Rattle.dp_plan.proofs.RegionOrder.{Sought, absent, present, find_region}
use Rattle.dp_depend.specs.declared.nodes.Node.{Node}
use Rattle.dp_depend.specs.Lists.{load_list, node_list, node_lists}
use Rattle.dp_depend.specs.Node.{nodes, plain_node, region_nodes}
use Rattle.dp_depend.proofs.NodeForms.{nodes-Region}
use Rattle.dp_cut.proofs.NodesAround.{Around, around_all}

-- the first of these is no `if` and stands around the others
pub record Headed (all : List Node) : Type 0 where
  pub first : Node
  pub rest : List Node
  pub are : all ≡ first ∷ rest
  pub plain : first.is_if ≡ false
  pub around : Each (Around first.site.0) rest

list_is : (s : Stmt) → node_list [] None s ≡ nodes [] None s
unfolding node_list
list_is s = refl

around_lists : (x : ℕ) (around : List ℕ) (all : List Stmt) → has x around ≡ true → Each (Around x) (node_lists around None all)
unfolding node_lists
around_lists x around all h = around_all x around None all h

pub region_headed : (p : Program) → IsInlined p → (r : ℕ) → 1 ≤ r → r < 1 + length p.regions → Headed (region_nodes p r)
region_headed p inlined r low high =
    by (find_region p.main 1 1 p.regions inlined.regions inlined.table (subst (λ (ns : List ℕ). Ascends 1 ns) (sym inlined.sites)
    (ascends-numbers_from 1 (length p.sites))) r)
  where
    by : Sought r 1 1 p.main p.regions → Headed (region_nodes p r)
    by (absent none out) = absurd (out low high)
    by (present entry from at region least most) =
        let site = region.site in
        let same : region_nodes p r ≡ nodes [] None region.statement = ap (λ (xs : List Stmt). flat_map (nodes [] None) xs) region.only
        ∙ append-nil (nodes [] None region.statement) in
        let made : nodes [] None region.statement ≡ node_list [] None (tree.Region r region.site region.cond region.body) = sym (list_is region.statement)
        ∙ ap (node_list [] None) region.made in
        record {
          first = plain_node [] None region.site (load_list region.cond) None;
          rest = node_lists ([] ++ region.site.0 ∷ []) None region.body;
          are = same ∙ made ∙ nodes-Region [] None r region.site region.cond region.body;
          plain = refl;
          around = around_lists region.site.0 ([] ++ region.site.0 ∷ []) region.body (or_left (region.site.0 == region.site.0) false
              (eq-eqb region.site.0 region.site.0 refl));
        }
