-- What is so of a region of an inlined program and of its dependences: its condition leads to all its sites.
use Rattle.std.proofs.Common.{◌≡◌, refl, sym, ap, subst, ◌∙◌, ℕ, zero, suc, ◌+◌, ◌-◌, ◌<◌, ◌≤◌, true, false, List, [], ◌∷◌, map, length, Option, Contains}
use Rattle.std.proofs.Common.{arith}
use Rattle.dp_tree.specs.declared.Program.{Program}
use Rattle.dp_tree.specs.Inlined.{IsInlined}
use Rattle.dp_plan.specs.Each.{AscendAbove}
use Rattle.dp_plan.specs.Rules.{assumed_site}
use Rattle.dp_plan.specs.Written.{has, region_sites}
use Rattle.dp_plan.proofs.Ascent.{Ascends, above-ascends}
use Rattle.dp_plan.proofs.RegionFacts.{InOrder, in_order}
use Rattle.dp_profile.specs.declared.Profile.{Profile}
use Rattle.dp_depend.specs.declared.nodes.Node.{Node}
use Rattle.dp_depend.specs.Edges.{chosen_of, first_in_region, node_site}
use Rattle.dp_depend.specs.Node.{region_nodes}
use Rattle.dp_depend.specs.Shown.{region_profile}
use Rattle.dp_depend.proofs.NodeSites.{node_sites}
use Rattle.dp_units.specs.Graph.{Walk}
use Rattle.dp_units.specs.Graph.Walk.{along, stay}
use Rattle.dp_cut.specs.Automatic.{node_pairs}
use Rattle.dp_cut.specs.LeastPlan.{plan_of_cut}
use Rattle.dp_cut.proofs.ChosenIfs.{others_left}
use Rattle.dp_cut.proofs.ControlEdges.{control_edge}
use Rattle.dp_cut.proofs.LeastStages.{ascends_has}
use Rattle.dp_cut.proofs.NodeElements.{each_contains, node_at, nodes_many}
use Rattle.dp_cut.proofs.NodesAround.{Around}
use Rattle.dp_cut.proofs.RegionHead.{Headed, region_headed}

pub record IsReady (p : Program) (r : ℕ) (profile : Option Profile) (rate : ℕ) : Type 0 where
  -- the sites go up one by one, and have 32 bits
  pub ascends : Ascends (first_in_region p r) (region_sites p r)
  pub up : AscendAbove 0 (map node_site (region_nodes p r))
  pub some : 0 < length (region_nodes p r)
  -- no outcome of a site that is no `if` may be assumed
  pub plain : (u : Node) → Contains (region_nodes p r) u → u.is_if ≡ false → has u.site.0 (map assumed_site (chosen_of p r profile rate)) ≡ false
  -- walks lead from the condition to all sites
  pub leads : (b : ℕ) → b < length (region_nodes p r) → Walk (node_pairs p r profile rate) 0 b

module _ (p : Program) (inlined : IsInlined p) (r : ℕ) (low : 1 ≤ r) (high : r < 1 + length p.regions) (profile : Option Profile) (rate : ℕ) where
  abbrev all : List Node
  all = region_nodes p r

  abbrev pairs : List (ℕ × ℕ)
  pairs = node_pairs p r profile rate

  abbrev first : ℕ
  first = first_in_region p r

  order : InOrder p (plan_of_cut p r [] [] [])
  order = in_order p inlined (plan_of_cut p r [] [] []) low high

  ascends : Ascends (first_in_region p r) (region_sites p r)
  ascends = order.order

  up : AscendAbove 0 (map node_site (region_nodes p r))
  up = subst (λ (l : List ℕ). AscendAbove 0 l) (sym (node_sites p r)) (above-ascends 0 (first_in_region p r) (region_sites p r) order.order
      (omega (arith, order.low)) order.high)

  head : Headed (region_nodes p r)
  head = region_headed p inlined r low high

  some_node : 0 < length (region_nodes p r)
  some_node = let e = ap length head.are in omega (arith, e)

  -- no outcome of a site that is no `if` may be assumed
  plain_free : (u : Node) → Contains (region_nodes p r) u → u.is_if ≡ false → has u.site.0 (map assumed_site (chosen_of p r profile rate)) ≡ false
  plain_free u c = each_contains (λ (v : Node). v.is_if ≡ false → has v.site.0 (map assumed_site (chosen_of p r profile rate)) ≡ false) (region_nodes p r) u
      (others_left (region_profile profile r).sites (first_in_region p r) rate 0 (region_nodes p r) up) c

  head_there : Contains (region_nodes p r) head.first
  head_there = subst (λ (l : List Node). Contains l head.first) (sym head.are) (zero, omega arith, refl)

  head_site : head.first.site.0 ≡ first_in_region p r
  head_site =
      let sites : map node_site (head.first ∷ head.rest) ≡ region_sites p r = sym (ap (map node_site) head.are) ∙ node_sites p r in
      (subst (λ (l : List ℕ). Ascends (first_in_region p r) l) (sym sites) ascends).0

  leads_on : (d : Node) → Contains (head.first ∷ head.rest) d → Contains (region_nodes p r) d → Walk pairs 0 (d.site.0 - first)
  leads_on d (zero, lt, is) there =
      let none : 0 ≡ d.site.0 - first = (let e = ap node_site is in omega (arith, e, head_site)) in
      subst (λ (n : ℕ). Walk pairs 0 n) none stay
  leads_on d (suc i, lt, is) there =
      let around = each_contains (Around head.first.site.0) head.rest d head.around (i, omega (arith, lt), is) in
      let pair = control_edge p r profile rate head.first d head_there there (plain_free head.first head_there head.plain) around in
      let none : head.first.site.0 - first ≡ 0 = omega (arith, head_site) in
      let step : Walk pairs (head.first.site.0 - first) (d.site.0 - first) = along stay pair in
      subst (λ (n : ℕ). Walk pairs n (d.site.0 - first)) none step

  leads : (b : ℕ) → b < length (region_nodes p r) → Walk (node_pairs p r profile rate) 0 b
  leads b lt =
      let there : has (first + b) (map node_site all) ≡ true = subst (λ (l : List ℕ). has (first + b) l ≡ true) (sym (node_sites p r))
      (ascends_has first b (region_sites p r) ascends (omega (arith, lt, nodes_many p r))) in
      let d = node_at all (first + b) there in
      let at : d.0.site.0 - first ≡ b = (let e = d.2 in omega (arith, e)) in
      subst (λ (n : ℕ). Walk pairs 0 n) at (leads_on d.0 (subst (λ (l : List Node). Contains l d.0) head.are d.1) d.1)

  pub region_ready : IsReady p r profile rate
  region_ready = record { ascends = ascends; up = up; some = some_node; plain = plain_free; leads = leads }
