-- What is so of a region that ran, written out.
use Rattle.std.proofs.Common.{◌≡◌, ◌≢◌, sym, ap, ◌∙◌, ℕ, suc, ◌+◌, ◌<◌, true, false, List, [], length, map, arith}
use Rattle.dp_base.specs.declared.Fault.{Fault as FaultAt}
use Rattle.dp_tree.specs.declared.Program.{Program}
use Rattle.dp_tree.specs.InMain.{StandsInMain}
use Rattle.dp_tree.specs.Step.{Event}
use Rattle.dp_tree.specs.Iteration.{begun_count, starts, is_closing, has_ended}
use Rattle.dp_tree.specs.IterationLaws.{events_of_first}
use Rattle.dp_plan.specs.declared.Plan.{Plan}
use Rattle.dp_meaning.specs.MachineState.{MachineState, rest_of_run}
use Rattle.dp_epoch.specs.declared.ends.RegionEnd.{RegionEnd}
use Rattle.dp_epoch.specs.declared.ends.RegionEnd.TheVariants.{Closed, Fault, Fuel}
use Rattle.dp_epoch.specs.RegionRun.{RegionRan, RegionStops, region_run}

module _ (p : Program) (plan : Plan) (first last : MachineState) where
  abbrev begun : List Event
  begun = events_of_first (region_run first) plan.region (begun_count (region_run first) plan.region)

  module _ (end : RegionEnd) (ran : RegionRan p plan first last end) where
    the_steps_of_its_iterations_are_made : last.steps ≡ first.steps + length begun
    the_steps_of_its_iterations_are_made = ran.made.steps

    it_stands_in_main : StandsInMain p last.config
    it_stands_in_main = ran.made.stands

    the_same_end_is_ahead : (rest_of_run last).end ≡ (region_run first).end
    the_same_end_is_ahead = sym ran.made.piece.end

    each_other_region_starts_behind_it : (q : ℕ) → q ≢ plan.region → starts (region_run first) q ≡ map (λ (k : ℕ). length begun + k)
        (starts (rest_of_run last) q)
    each_other_region_starts_behind_it = ran.made.others

  -- a region that is left
  its_last_iteration_closes_it : RegionRan p plan first last Closed → (i : ℕ) → begun_count (region_run first) plan.region ≡ suc i →
      is_closing (region_run first) plan.region i ≡ true
  its_last_iteration_closes_it ran i e =
      let same : i ≡ ran.ends.iteration = omega (arith, e, ran.ends.is_last) in
      ap (is_closing (region_run first) plan.region) same ∙ ran.ends.closing

  it_was_begun : RegionRan p plan first last Closed → 0 < begun_count (region_run first) plan.region
  it_was_begun ran = omega (arith, ran.ends.is_last)

  -- one in which the run ends
  abbrev Unended : ℕ → Type 0
  Unended i = (has_ended (region_run first) plan.region i ≡ false) × ((j : ℕ) → j < i → has_ended (region_run first) plan.region j ≡ true)

  first_unended : RegionStops plan first → (i : ℕ) × Unended i
  first_unended stops = (stops.iteration, (stops.unended, stops.before))

  a_fault_leaves_an_iteration_unended : (fault : FaultAt) → RegionRan p plan first last (Fault fault) → (i : ℕ) × Unended i
  a_fault_leaves_an_iteration_unended fault ran = first_unended ran.ends.0

  spent_fuel_leaves_an_iteration_unended : RegionRan p plan first last Fuel → (i : ℕ) × Unended i
  spent_fuel_leaves_an_iteration_unended ran = first_unended ran.ends.0

  a_fault_reaches_no_other_region : (fault : FaultAt) → RegionRan p plan first last (Fault fault) → (q : ℕ) → q ≢ plan.region → starts (region_run first) q ≡ []
  a_fault_reaches_no_other_region fault ran = ran.ends.0.others

  spent_fuel_reaches_no_other_region : RegionRan p plan first last Fuel → (q : ℕ) → q ≢ plan.region → starts (region_run first) q ≡ []
  spent_fuel_reaches_no_other_region ran = ran.ends.0.others
