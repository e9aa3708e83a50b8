-- The stages of a region's sites under a cut of its units.
use Rattle.std.proofs.Common.{◌≡◌, refl, ap, ◌∙◌, subst, ℕ, zero, suc, ◌+◌, ◌-◌, ◌<◌, ◌≤◌, ◌==◌, true, nat_lt, List, [], ◌∷◌, map, length, filter, slice_index}
use Rattle.std.proofs.Common.{Contains, Option, inl, inr, ◌⊎◌, arith, eq-eqb, eqb-true}
use Rattle.std.proofs.lemmas.Bool.{and_from, cases_Bool, cases_lt, lt-ltb, or_right}
use Rattle.std.proofs.lemmas.List.{get_or-map}
use Rattle.dp_tree.specs.declared.Assume.{Assume}
use Rattle.dp_tree.specs.declared.Program.{Program}
use Rattle.dp_plan.specs.Rules.{assumed_site}
use Rattle.dp_plan.specs.Written.{has, region_sites}
use Rattle.dp_plan.proofs.Ascent.{Ascends}
use Rattle.dp_profile.specs.declared.Profile.{Profile}
use Rattle.dp_depend.specs.declared.nodes.Node.{Node}
use Rattle.dp_depend.specs.Edges.{chosen_of, first_in_region, node_site}
use Rattle.dp_depend.specs.Node.{region_nodes}
use Rattle.dp_depend.proofs.NodeSites.{node_sites}
use Rattle.dp_units.specs.Graph.{Walk}
use Rattle.dp_units.specs.Graph.Walk.{along, stay}
use Rattle.dp_units.specs.Order.{ArePlaces, IsOrder}
use Rattle.dp_units.proofs.PlaceLaws.{along_walks}
use Rattle.dp_least_cut.specs.declared.Stretch.{Stretch}
use Rattle.dp_cut.specs.Automatic.{node_pairs}
use Rattle.dp_cut.specs.LeastPlan.{at_site, stands_late, must_assume, stage_of_unit, stages_of}
use Rattle.dp_cut.proofs.ChosenIfs.{kept_site}
use Rattle.dp_cut.proofs.ControlEdges.{control_edge}
use Rattle.dp_cut.proofs.NodeElements.{any_contains, node_at, nodes_many}
use Rattle.dp_cut.proofs.StageFacts.{stage_rises}

-- a number among some that go up one by one lies between the first and the last
pub ascends_between : (k x : ℕ) (ns : List ℕ) → Ascends k ns → has x ns ≡ true → (k ≤ x) × (x < k + length ns)
ascends_between k x [] up e = absurd (cc e)
ascends_between k x (n ∷ rest) up e = elim (cases_Bool (n == x)) [
  | inl t ↦ let same = eqb-true n x t in (omega (arith, same, up.0), omega (arith, same, up.0))
  | inr f ↦ let later = ascends_between (suc k) x rest up.1 (rw f at e) in (omega (arith, later.0), omega (arith, later.1))
]

-- each number between them is there
pub ascends_has : (k i : ℕ) (ns : List ℕ) → Ascends k ns → i < length ns → has (k + i) ns ≡ true
ascends_has k i [] up lt = absurd (omega (arith, lt))
ascends_has k zero (n ∷ rest) up lt = let same : n ≡ k + 0 = omega (arith, up.0) in rw (eq-eqb n (k + 0) same) refl
ascends_has k (suc i) (n ∷ rest) up lt =
    let next : suc k + i ≡ k + suc i = omega arith in
    or_right (n == (k + suc i)) (has (k + suc i) rest) (subst (λ (m : ℕ). has m rest ≡ true) next (ascends_has (suc k) i rest up.1 (omega (arith, lt))))

module _ (p : Program) (r : ℕ) (profile : Option Profile) (rate : ℕ) (order places : List ℕ)
    (ordered : IsOrder (length (region_nodes p r)) (node_pairs p r profile rate) order)
    (placed : ArePlaces (length (region_nodes p r)) (node_pairs p r profile rate) order places)
    (up : Ascends (first_in_region p r) (region_sites p r)) (cut : List Stretch) where
  abbrev stage : ℕ → ℕ
  stage x = at_site (stages_of cut places) (first_in_region p r) x

  -- the number of a site's node
  pub number : (x : ℕ) → has x (region_sites p r) ≡ true → (first_in_region p r ≤ x) × (x - first_in_region p r < length (region_nodes p r))
  number x e = let both = ascends_between (first_in_region p r) x (region_sites p r) up e in (both.0, omega (arith, both.0, both.1, nodes_many p r))

  -- the stage of a node's unit
  pub stage_of_node : (i : ℕ) → i < length (region_nodes p r) → slice_index (stages_of cut places) i ≡ stage_of_unit 1 cut (slice_index places i)
  stage_of_node i lt = get_or-map (stage_of_unit 1 cut) places i 0 0 (omega (arith, lt, placed.each))

  -- along a walk the stages don't fall
  no_earlier : (x y : ℕ) → has x (region_sites p r) ≡ true → has y (region_sites p r) ≡ true → Walk (node_pairs p r profile rate) (x - first_in_region p r)
      (y - first_in_region p r) → stage x ≤ stage y
  no_earlier x y from to walk =
      let i : ℕ = x - first_in_region p r in
      let j : ℕ = y - first_in_region p r in
      let places_rise = along_walks (length (region_nodes p r)) (node_pairs p r profile rate) order places ordered placed i j (number x from).1
      (number y to).1 walk in
      let rise = stage_rises 1 cut (slice_index places i) (slice_index places j) places_rise in
      omega (arith, rise, stage_of_node i (number x from).1, stage_of_node j (number y to).1)

  abbrev pub assumed : List Assume
  assumed = filter (must_assume (stages_of cut places) (first_in_region p r) (region_nodes p r)) (chosen_of p r profile rate)

  -- the condition is in no later stage than the site, or an outcome of it is assumed
  abbrev pub InTime : ℕ → ℕ → Type 0
  InTime x y = (at_site (stages_of cut places) (first_in_region p r) x ≤ at_site (stages_of cut places) (first_in_region p r) y)
      ⊎ (has x (map assumed_site assumed) ≡ true)

  -- an outcome of a condition that comes late has to be assumed
  needed : (u : Node) (x : ℕ) → Contains (region_nodes p r) u → has x u.around ≡ true → stage u.site.0 < stage x → (a : Assume) → a.site.0 ≡ x →
      must_assume (stages_of cut places) (first_in_region p r) (region_nodes p r) a ≡ true
  needed u x there around late a same =
      let at : stands_late (stages_of cut places) (first_in_region p r) x u ≡ true = and_from (has x u.around) (nat_lt (stage u.site.0) (stage x)) around
      (lt-ltb (stage u.site.0) (stage x) late) in
      any_contains (stands_late (stages_of cut places) (first_in_region p r) a.site.0) (region_nodes p r) u there
      (ap (λ (n : ℕ). stands_late (stages_of cut places) (first_in_region p r) n u) same ∙ at)

  pub in_time : (u : Node) (x : ℕ) → Contains (region_nodes p r) u → has x u.around ≡ true → has x (map node_site (region_nodes p r)) ≡ true →
      has u.site.0 (region_sites p r) ≡ true → InTime x u.site.0
  in_time u x there around known to = elim (cases_lt (stage u.site.0) (stage x)) [
    | inr low ↦ inl low
    | inl late ↦ elim (cases_Bool (has x (map assumed_site (chosen_of p r profile rate)))) [
      | inl t ↦ inr (kept_site (must_assume (stages_of cut places) (first_in_region p r) (region_nodes p r)) x (chosen_of p r profile rate)
          (needed u x there around late) t)
      | inr free ↦
          let d = node_at (region_nodes p r) x known in
          let pair = control_edge p r profile rate d.0 u d.1 there (ap (λ (n : ℕ). has n (map assumed_site (chosen_of p r profile rate))) d.2 ∙ free)
          (ap (λ (n : ℕ). has n u.around) d.2 ∙ around) in
          let step : Walk (node_pairs p r profile rate) (d.0.site.0 - first_in_region p r) (u.site.0 - first_in_region p r) = along stay pair in
          let walk : Walk (node_pairs p r profile rate) (x - first_in_region p r) (u.site.0 - first_in_region p r) = subst
          (λ (n : ℕ). Walk (node_pairs p r profile rate) (n - first_in_region p r) (u.site.0 - first_in_region p r)) d.2 step in
          inl (no_earlier x u.site.0 (subst (λ (l : List ℕ). has x l ≡ true) (node_sites p r) known) to walk)
    ]
  ]
