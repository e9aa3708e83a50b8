-- A condition of which no outcome may be assumed has an edge to each site that it stands around.
use Rattle.std.proofs.Common.{◌≡◌, refl, ap, ℕ, zero, ◌-◌, Bool, true, false, not, List, map, Option, Contains, arith}
use Rattle.std.proofs.lemmas.Bool.{and_from}
use Rattle.dp_tree.specs.declared.Program.{Program}
use Rattle.dp_plan.specs.Rules.{assumed_site}
use Rattle.dp_plan.specs.Written.{has}
use Rattle.dp_profile.specs.declared.Flow.{Flow}
use Rattle.dp_profile.specs.declared.Profile.{Profile}
use Rattle.dp_profile.specs.declared.SiteCount.{SiteCount}
use Rattle.dp_depend.specs.declared.EdgeKind.TheVariants.{Control}
use Rattle.dp_depend.specs.declared.nodes.Node.{Node}
use Rattle.dp_depend.specs.Edges.{chosen_of, edge, edges_among, edges_between, edges_from, edges_of, first_in_region, is_assumed, is_control}
use Rattle.dp_depend.specs.Node.{region_nodes}
use Rattle.dp_depend.specs.Shown.{region_profile}
use Rattle.dp_units.specs.Graph.{HasEdge}
use Rattle.dp_cut.specs.Automatic.{node_pair, node_pairs}
use Rattle.dp_cut.proofs.NodeElements.{contains_flat, contains_map}

module _ (p : Program) (r : ℕ) (counts : List SiteCount) (flows : List Flow) (first rate : ℕ) where
  between : (assumed : Bool) (d u : Node) → is_control assumed d u ≡ true → Contains (edges_between p r counts flows first rate assumed d u) (edge d u Control)
  unfolding edges_between
  between assumed d u e = rw e (zero, omega arith, refl)

  from_one : (assumed : Bool) (d : Node) (to : List Node) (u : Node) → Contains to u → is_control assumed d u ≡ true →
      Contains (edges_from p r counts flows first rate assumed d to) (edge d u Control)
  unfolding edges_from
  from_one assumed d to u c e = contains_flat (edges_between p r counts flows first rate assumed d) to u (edge d u Control) c (between assumed d u e)

-- a condition of region r of which no outcome may be assumed is joined to the sites that it stands around
pub control_edge : (p : Program) (r : ℕ) (profile : Option Profile) (rate : ℕ) (d u : Node) → Contains (region_nodes p r) d → Contains (region_nodes p r) u
    → has d.site.0 (map assumed_site (chosen_of p r profile rate)) ≡ false → has d.site.0 u.around ≡ true
    → HasEdge (node_pairs p r profile rate) (d.site.0 - first_in_region p r) (u.site.0 - first_in_region p r)
unfolding edges_among
control_edge p r profile rate d u from to free around =
    let counts = (region_profile profile r).sites in
    let flows = (region_profile profile r).flows in
    let first = first_in_region p r in
    let chosen = chosen_of p r profile rate in
    let all = region_nodes p r in
    let so : is_control (is_assumed chosen d) d u ≡ true = and_from (not (is_assumed chosen d)) (has d.site.0 u.around) (ap not free) around in
    let there : Contains (edges_of p r profile rate) (edge d u Control) =
    contains_flat (λ (v : Node). edges_from p r counts flows first rate (is_assumed chosen v) v all) all d (edge d u Control) from
    (from_one p r counts flows first rate (is_assumed chosen d) d all u to so) in
    contains_map (node_pair first) (edges_of p r profile rate) (edge d u Control) there
