-- What stands where memory was wanting, and behind a call.
use Rattle.dp_meaning.proofs.Names.{◌≡◌, refl, sym, ◌∙◌, ap, subst, true, false, ℕ, ◌+◌, ◌<◌, Option, None, Some, List, [], ◌∷◌, ◌++◌, append_assoc, drop}
use Rattle.dp_meaning.proofs.Names.{length, ℤ, arith, filter_map-append, Config, Event, prints, printed_by, PartEnd, MachineState, rest_of_run, part_of}
use Rattle.dp_meaning.proofs.Names.{part_at, next_part, from_region, Spoiled, PartRun, IterationRun, HeadsOnce, AwaitsCondition, Ends, End}
use Rattle.dp_meaning.specs.declared.ends.Part.TheVariants as part
use Rattle.dp_meaning.specs.declared.ends.PartEnd.TheVariants as part_end
use Rattle.dp_meaning.specs.declared.ends.IterEnd.TheVariants as iter_end

module _ (turns : ℕ) (old new : MachineState) (before after : List ℤ) (s : Spoiled turns old new before after) where
  -- what was printed and what would be printed from here on are the prints of the run
  no_print_is_lost : before ++ prints (rest_of_run old).trace ≡ after ++ prints (rest_of_run new).trace
  no_print_is_lost =
      let rest = prints (rest_of_run new).trace in
      ap (λ (es : List Event). before ++ prints es) s.moved.run.trace ∙
      ap (λ (xs : List ℤ). before ++ xs) (filter_map-append (λ (e : Event). printed_by e.effect) s.events (rest_of_run new).trace) ∙
      sym (append_assoc before (prints s.events) rest) ∙
      ap (λ (xs : List ℤ). xs ++ rest) (sym s.moved.prints)

  fewer_steps_than_turns : new.steps < old.steps + turns
  fewer_steps_than_turns = let steps = s.moved.steps in let few = s.within in omega arith

  the_same_end_is_ahead : (rest_of_run new).end ≡ (rest_of_run old).end
  the_same_end_is_ahead = sym s.moved.run.end

  the_same_part_is_next : next_part new ≡ next_part old
  the_same_part_is_next = s.part

  no_region_is_passed : from_region new.config.to_do ≡ from_region old.config.to_do
  no_region_is_passed = s.behind

  no_step_follows : new.spoiled ≡ true
  no_step_follows = s.spoiled

  a_step_is_left : old.spoiled ≡ false → new.steps < new.fuel
  a_step_is_left = s.left

-- what is left to do behind a call
module _ (turns : ℕ) (old new : MachineState) (before after : List ℤ) where
  done_stands_at_the_next_region : PartRun turns old new before after part_end.Done → new.config.to_do ≡ from_region old.config.to_do
  done_stands_at_the_next_region run = run.stops.rest

  parts_pass_no_region : (end : PartEnd) → PartRun turns old new before after end → from_region new.config.to_do ≡ from_region old.config.to_do
  parts_pass_no_region end run = run.went.behind

  parts_lead_to_the_runs_end : (end : PartEnd) → PartRun turns old new before after end → (rest_of_run old).end ≡ (rest_of_run new).end
  parts_lead_to_the_runs_end end run = run.went.moved.run.end

  parts_spend_fuel : (end : PartEnd) → (run : PartRun turns old new before after end) → (rest_of_run old).fuel ≡ length run.went.events + (rest_of_run new).fuel
  parts_spend_fuel end run = run.went.moved.run.fuel

  module _ (region : ℕ) where
    next_stands_at_the_region : IterationRun region turns old new before after iter_end.Next → new.config.to_do ≡ from_region old.config.to_do
    next_stands_at_the_region run = run.stops.rest

    closed_leaves_the_region : IterationRun region turns old new before after iter_end.Closed → new.config.to_do ≡ drop 1 (from_region old.config.to_do)
    closed_leaves_the_region run = run.stops.rest

    going_passes_no_region : IterationRun region turns old new before after iter_end.Going → from_region new.config.to_do ≡ from_region old.config.to_do
    going_passes_no_region run = run.stops.0.behind

-- an iteration begins at its region's condition
condition_comes_first : (region : ℕ) (first : Config) (rest : List Config) → HeadsOnce region None (first ∷ rest) → part_of first.to_do ≡ part.Region region
condition_comes_first region first rest heads = heads.0

-- one that isn't begun still stands there
unbegun_stands_at_its_condition : (region turns : ℕ) (old new : MachineState) (out : List ℤ) → old.current ≡ None →
    IterationRun region turns old new out out iter_end.Going → new.current ≡ None →
    part_of new.config.to_do ≡ part.Region region
unbegun_stands_at_its_condition region turns old new out idle run none = subst (λ (c : Option ℕ). AwaitsCondition region c new.config) none run.stops.0.awaits

-- what is next where nothing is left, and while an iteration is under way
nothing_left : part_of [] ≡ part.Finished
nothing_left = refl

under_way : part_at (Some 3) [] ≡ part.Region 3
under_way = refl

-- a call that makes no step, where the run has ended, changes nothing of the machine
ended_stays : (how : End) (old new : MachineState) → Ends how old new → new ≡ old
ended_stays how old new ends = ends.same
