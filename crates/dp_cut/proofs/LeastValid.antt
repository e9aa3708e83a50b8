-- A least plan is a valid one.
use Rattle.std.proofs.Common.{◌≡◌, refl, sym, ap, subst, ◌∙◌, ℕ, zero, suc, ◌+◌, ◌-◌, ◌<◌, ◌≤◌, ◌==◌, not, if◌then◌else◌, Bool, true, false, is_none, List, []}
use Rattle.std.proofs.Common.{◌∷◌, map, length, slice_index, Option, Contains, inl, inr, arith, eq-eqb, le-leb}
use Rattle.std.proofs.lemmas.Bool.{or_from, or_right}
use Rattle.std.proofs.lemmas.List.{length-map}
use Rattle.dp_tree.specs.declared.Program.{Program}
use Rattle.dp_tree.specs.Inlined.{IsInlined}
use Rattle.dp_tree.specs.Numbering.{numbers_from}
use Rattle.dp_plan.specs.declared.Plan.{Plan}
use Rattle.dp_plan.specs.Access.{region_in}
use Rattle.dp_plan.specs.Enclosing.{region_ifs, region_inner_whiles}
use Rattle.dp_plan.specs.GivenPlans.{IsPlan}
use Rattle.dp_plan.specs.Each.{AscendAbove, Each}
use Rattle.dp_plan.specs.Rules.{assumed_site, condition, first_in, is_no_if_or_again, occurs_again, site_of_condition}
use Rattle.dp_plan.specs.Stage.{stage_of}
use Rattle.dp_plan.specs.Written.{has, region_sites, written_of, written_stage}
use Rattle.dp_plan.proofs.Ascent.{Ascends}
use Rattle.dp_plan.proofs.EachLemmas.{each_map}
use Rattle.dp_plan.proofs.Found.{each_has, has_each}
use Rattle.dp_plan.proofs.RulesMet.{Meets, unbroken}
use Rattle.dp_plan.proofs.SameNumbers.{ascending_once}
use Rattle.dp_profile.specs.declared.Profile.{Profile}
use Rattle.dp_depend.specs.declared.nodes.Node.{Node}
use Rattle.dp_depend.specs.Edges.{chosen_of, edges_of, first_in_region, node_site}
use Rattle.dp_depend.specs.Node.{region_nodes}
use Rattle.dp_depend.specs.Shown.{region_profile}
use Rattle.dp_depend.proofs.NodeSites.{node_sites}
use Rattle.dp_units.specs.Order.{ArePlaces, IsOrder}
use Rattle.dp_units.proofs.PlaceLaws.{first_of_all, place_of_leader}
use Rattle.dp_least_cut.specs.declared.Stretch.{Stretch}
use Rattle.dp_least_cut.specs.Allowed.{AreStages}
use Rattle.dp_cut.specs.Automatic.{IsAutomatic, node_pairs, weights_of}
use Rattle.dp_cut.specs.LeastPlan.{at_site, carried_pairs, must_assume, stretch_kind, plan_of_cut, stage_of_unit, stages_of, unit_weights}
use Rattle.dp_cut.proofs.ChosenIfs.{chosen_each, chosen_up, kept_each, kept_left, kept_up}
use Rattle.dp_cut.proofs.NodeElements.{each_contains, each_from, node_has, nodes_many}
use Rattle.dp_cut.proofs.LeastStages.{ascends_has, in_time, number, stage_of_node}
use Rattle.dp_cut.proofs.NodeKinds.{conditions_are_sites, if_nodes}
use Rattle.dp_cut.proofs.NodesAround.{Outside, all_ifs, all_whiles}
use Rattle.dp_cut.proofs.RegionReady.{IsReady, region_ready}
use Rattle.dp_cut.proofs.StageFacts.{first_stage, stage_least, stage_most, stage_reached}
use Rattle.dp_cut.proofs.StageLines.{no_neighbours, sequential_first}
use Rattle.dp_cut.proofs.ValidStages.{InTime, Unassumed, all_listed, ifs_in_time, none_again, none_foreign, not_again, stage_written, whiles_in_time}
use Rattle.dp_tree.proofs.NumberLists.{length-numbers_from}

-- ---- lists

each_number : (P : ℕ → Type 0) (k n : ℕ) → ((j : ℕ) → k ≤ j → j < k + n → P j) → Each P (numbers_from k n)
each_number P k zero f = tt
each_number P k (suc n) f = (f k (omega arith) (omega arith), each_number P (k + 1) n (λ j low high. f j (omega (arith, low)) (omega (arith, high))))

has_index : (i : ℕ) (ns : List ℕ) → i < length ns → has (slice_index ns i) ns ≡ true
has_index i [] lt = absurd (omega (arith, lt))
has_index zero (n ∷ ns) lt = rw (eq-eqb n n refl) refl
has_index (suc i) (n ∷ ns) lt = or_right (n == slice_index ns i) (has (slice_index ns i) ns) (has_index i ns (omega (arith, lt)))

first_is : (k : ℕ) (ns : List ℕ) → Ascends k ns → 0 < length ns → first_in ns ≡ k
first_is k [] up lt = absurd (omega (arith, lt))
first_is k (n ∷ ns) up lt = up.0

module _ (p : Program) (r : ℕ) (profile : Option Profile) (rate : ℕ) (ready : IsReady p r profile rate) (order places : List ℕ)
    (ordered : IsOrder (length (region_nodes p r)) (node_pairs p r profile rate) order)
    (placed : ArePlaces (length (region_nodes p r)) (node_pairs p r profile rate) order places)
    (carried : List (ℕ × ℕ)) (cut : List Stretch) (stages : AreStages carried (length order) true 0 cut) where
  abbrev made : Plan
  made = plan_of_cut p r places (chosen_of p r profile rate) cut

  up : AscendAbove 0 (region_sites p r)
  up = subst (λ (l : List ℕ). AscendAbove 0 l) (node_sites p r) ready.up

  some_unit : 0 < length order
  some_unit = omega (arith, placed.within 0 ready.some)

  -- the stage of a site, by the place of its unit
  site_stage : (x : ℕ) → has x (region_sites p r) ≡ true → stage_of p made x ≡ at_site (stages_of cut places) (first_in_region p r) x
  site_stage x e =
      ap (λ (b : Bool). if b then at_site (stages_of cut places) (first_in_region p r) x else 0)
      (le-leb (first_in_region p r) x (number p r profile rate order places ordered placed ready.ascends cut x e).0)

  unit_stage : (x : ℕ) → has x (region_sites p r) ≡ true → stage_of p made x ≡ stage_of_unit 1 cut (slice_index places (x - first_in_region p r))
  unit_stage x e = site_stage x e ∙ stage_of_node p r profile rate order places ordered placed ready.ascends cut (x - first_in_region p r)
      (number p r profile rate order places ordered placed ready.ascends cut x e).1

  kinds_many : length (map stretch_kind cut) ≡ length cut
  kinds_many = length-map cut stretch_kind

  within : (x : ℕ) → has x (region_sites p r) ≡ true → (1 ≤ stage_of p made x) × (stage_of p made x < 1 + length (map stretch_kind cut))
  within x e =
      let i : ℕ = slice_index places (x - first_in_region p r) in
      let lt = placed.within (x - first_in_region p r) (number p r profile rate order places ordered placed ready.ascends cut x e).1 in
      let is = unit_stage x e in
      let most = stage_most carried (length order) 1 true 0 cut i stages (omega (arith, lt)) in
      (omega (arith, is, stage_least 1 cut i), omega (arith, is, most, kinds_many))

  condition_first : written_stage (written_of p made) (condition p (written_of p made)) ≡ 1
  condition_first =
      let is : first_in (region_sites p r) ≡ first_in_region p r = first_is (first_in_region p r) (region_sites p r) ready.ascends
      (omega (arith, ready.some, nodes_many p r)) in
      let plus : first_in_region p r + 0 ≡ first_in_region p r = omega arith in
      let there : has (first_in_region p r) (region_sites p r) ≡ true = subst (λ (n : ℕ). has n (region_sites p r) ≡ true) plus
      (ascends_has (first_in_region p r) 0 (region_sites p r) ready.ascends (omega (arith, ready.some, nodes_many p r))) in
      let none : first_in_region p r - first_in_region p r ≡ 0 = omega arith in
      let place : slice_index places 0 ≡ 0 = first_of_all (length (region_nodes p r)) (node_pairs p r profile rate) order places ordered placed
      ready.some ready.leads in
      ap (written_stage (written_of p made)) is
      ∙ stage_written p made up within (first_in_region p r) there
      ∙ unit_stage (first_in_region p r) there
      ∙ ap (λ (n : ℕ). stage_of_unit 1 cut (slice_index places n)) none
      ∙ ap (stage_of_unit 1 cut) place
      ∙ first_stage carried (length order) 1 true 0 cut stages some_unit

  -- each site and the conditions around it
  outside : (u : Node) → Contains (region_nodes p r) u → Outside (InTime p made up within) (Unassumed p made up within) u
  outside u c = (
    λ off. kept_left (must_assume (stages_of cut places) (first_in_region p r) (region_nodes p r)) u.site.0 (chosen_of p r profile rate) (ready.plain u c off),
    each_map (λ x. has x u.around ≡ true) (λ x. InTime p made up within x u.site.0) by u.around (each_has u.around),
  )
    where
      by : (x : ℕ) → has x u.around ≡ true → InTime p made up within x u.site.0
      by x around =
          let known : has x (map node_site (region_nodes p r)) ≡ true =
          has_each (λ n. has n (map node_site (region_nodes p r)) ≡ true) u.around x
          (each_contains (λ (v : Node). Each (λ n. has n (map node_site (region_nodes p r)) ≡ true) v.around) (region_nodes p r) u
          (conditions_are_sites p r) c) around in
          let there : has x (region_sites p r) ≡ true = subst (λ (l : List ℕ). has x l ≡ true) (node_sites p r) known in
          let own = node_has p r u c in (
            there,
            own,
            elim (in_time p r profile rate order places ordered placed ready.ascends cut u x c around known own) [
              | inl le ↦ inl (omega (arith, le, site_stage x there, site_stage u.site.0 own))
              | inr assumed ↦ inr assumed
            ],
          )

  each_outside : Each (Outside (InTime p made up within) (Unassumed p made up within)) (region_nodes p r)
  each_outside = each_from (Outside (InTime p made up within) (Unassumed p made up within)) (region_nodes p r) outside

  assumed_up : AscendAbove 0 (map assumed_site made.assume)
  assumed_up = kept_up (must_assume (stages_of cut places) (first_in_region p r) (region_nodes p r)) 0 (chosen_of p r profile rate)
      (chosen_up (region_profile profile r).sites (first_in_region p r) rate 0 (region_nodes p r) ready.up)

  assumed_ifs : Each (λ x. has x (map site_of_condition (region_ifs p r)) ≡ true) (map assumed_site made.assume)
  assumed_ifs = kept_each (λ x. has x (map site_of_condition (region_ifs p r)) ≡ true) (must_assume (stages_of cut places) (first_in_region p r)
      (region_nodes p r)) (chosen_of p r profile rate)
      (chosen_each (region_profile profile r).sites (first_in_region p r) rate (λ x. has x (map site_of_condition (region_ifs p r)) ≡ true)
      (region_nodes p r) (if_nodes p r))

  rightly : (x : ℕ) → has x (map site_of_condition (region_ifs p r)) ≡ true → is_no_if_or_again p (written_of p made) x ≡ false
  rightly x e = or_from (not (has x (map site_of_condition (region_ifs p r)))) (occurs_again (map assumed_site made.assume) x) (ap not e)
      (not_again x (map assumed_site made.assume) (ascending_once 0 x (map assumed_site made.assume) assumed_up))

  met : Meets p (written_of p made)
  met = record {
    all = all_listed p made up within;
    once = none_again p made up within;
    own = none_foreign p made up within;
    first = eq-eqb _ 1 condition_first;
    sequential = sequential_first p made carried (length order) cut stages;
    apart = no_neighbours p made carried (length order) 1 true 0 cut stages;
    whiles = whiles_in_time p made up within (region_inner_whiles p r) (all_whiles (InTime p made up within) (Unassumed p made up within)
        (region_in p r) each_outside);
    ifs = ifs_in_time p made up within (region_ifs p r) (all_ifs (InTime p made up within) (Unassumed p made up within) (region_in p r) each_outside);
    assumed = each_map (λ x. has x (map site_of_condition (region_ifs p r)) ≡ true) (λ x. is_no_if_or_again p (written_of p made) x ≡ false) rightly
        (map assumed_site made.assume) assumed_ifs;
  }

  -- each stage has a site: the node of a unit of it
  filled_at : (j : ℕ) → 1 ≤ j → j < 1 + length (map stretch_kind cut) → has j (stages_of cut places) ≡ true
  filled_at j least most =
      let unit = stage_reached carried (length order) 1 true 0 cut stages j least (omega (arith, most, kinds_many)) in
      let lt : unit.0 < length order = (let e = unit.1 in omega (arith, e)) in
      let node : ℕ = slice_index order unit.0 in
      let there : node < length (region_nodes p r) = (ordered.next unit.0 lt).free.within in
      let place : slice_index places node ≡ unit.0 = place_of_leader (length (region_nodes p r)) (node_pairs p r profile rate) order places
      ordered placed unit.0 lt in
      let is : slice_index (stages_of cut places) node ≡ j = stage_of_node p r profile rate order places ordered placed ready.ascends cut node there
      ∙ ap (stage_of_unit 1 cut) place ∙ unit.2 in
      let long : length (stages_of cut places) ≡ length places = length-map places (stage_of_unit 1 cut) in
      subst (λ (n : ℕ). has n (stages_of cut places) ≡ true) is (has_index node (stages_of cut places) (omega (arith, there, long, placed.each)))

  some_stage : (cut : List Stretch) → AreStages carried (length order) true 0 cut → 1 ≤ length cut
  some_stage [] none = absurd (omega (arith, none, some_unit))
  some_stage (s ∷ rest) are = omega arith

  pub cut_valid : length cut ≤ 8 → IsPlan p made
  cut_valid few = record {
    least_words = omega arith;
    most_words = omega arith;
    some_stage = omega (arith, kinds_many, some_stage cut stages);
    few_stages = omega (arith, kinds_many, few);
    filled = each_number (λ j. has j (stages_of cut places) ≡ true) 1 (length (map stretch_kind cut)) filled_at;
    staged = length-map places (stage_of_unit 1 cut) ∙ placed.each ∙ sym (nodes_many p r);
    valid = ap is_none (unbroken p (written_of p made) met);
    assume = assumed_up;
    table = refl;
  }

pub least_valid : (p : Program) → IsInlined p → (r : ℕ) → 1 ≤ r → r < 1 + length p.regions → (profile : Option Profile) (rate most workers : ℕ) → most < 9 →
    (plan : Plan) → IsAutomatic p r profile rate most workers plan → IsPlan p plan
least_valid p inlined r low high profile rate most workers few plan is =
    let weights = weights_of p r profile in
    let carried = carried_pairs is.places (first_in_region p r) (edges_of p r profile rate) in
    let cut = is.least.cut in
    let allowed = is.least.least.allowed in
    let count : length (unit_weights (length is.order) is.places weights) ≡ length is.order = length-map _ _ ∙ length-numbers_from 0 (length is.order) in
    let stages : AreStages carried (length is.order) true 0 cut = subst (λ (n : ℕ). AreStages carried n true 0 cut) count allowed.0 in
    subst (IsPlan p) (sym is.least.is) (cut_valid p r profile rate (region_ready p inlined r low high profile rate) is.order is.places is.ordered is.placed
    carried cut stages (omega (arith, allowed.1, few)))
