-- A region that comes next: what it prints comes before a later region is reached.
use Rattle.std.proofs.Common.{◌≡◌, refl, sym, ap, ap₂, ◌∙◌, ℕ, zero, suc, ◌+◌, ◌-◌, ◌<◌, ◌≤◌, true, List, [], ◌∷◌, ◌++◌, ℤ, append-nil, length, filter, take}
use Rattle.std.proofs.Common.{take-add, drop, Option, Some, None, slice_get, eq-eqb, inl, inr, arith}
use Rattle.std.proofs.lemmas.Bool.{cases_lt}
use Rattle.std.proofs.lemmas.List.{length-take, take-append-drop}
use Rattle.std.proofs.lemmas.List.Elements.{filter-append}
use Rattle.std.proofs.lemmas.List.Sums.{count_by-le-length, length-filter}
use Rattle.dp_tree.specs.declared.Stmt.{Stmt, out-Stmt}
use Rattle.dp_tree.specs.declared.Stmt.TheVariants as tree
use Rattle.dp_tree.specs.Inlined.{IsInlined}
use Rattle.dp_tree.specs.InMain.{StandsInMain}
use Rattle.dp_tree.specs.Iteration.{is_region, stands_at_head, start, starts, stop_from}
use Rattle.dp_tree.specs.IterationLaws.{events_of_first}
use Rattle.dp_tree.specs.RegionLaws.{StandsOnce, is_event_of, is_other_site}
use Rattle.dp_tree.specs.Step.{Config, Event}
use Rattle.dp_tree.specs.Trace.{Run, prints, run_of}
use Rattle.dp_tree.proofs.GoesOn.{goes_on}
use Rattle.dp_tree.proofs.Heads.{keeps_all}
use Rattle.dp_tree.proofs.InMain.{stays_in_main}
use Rattle.dp_tree.proofs.InsideRegion.{Inside, Quiet, inside, quiet, region_out}
use Rattle.dp_tree.proofs.IterationLaws.{iterations_adjoin}
use Rattle.dp_tree.proofs.MovedLists.{at_drop}
use Rattle.dp_meaning.specs.declared.ends.Part.TheVariants as part
use Rattle.dp_meaning.specs.MachineState.{MachineState, fuel_left, part_of, rest_of_run}
use Rattle.dp_meaning.proofs.MovedLemmas.{prints-append}
use Rattle.dp_room.proofs.ListLemmas.{at_index}
use Rattle.dp_run.specs.Regions.{regions_left}
use Rattle.dp_run.proofs.HeadPlaces.{FoundAt, found_at, no_place}
use Rattle.dp_run.proofs.InOrder.{none_later, one_place, stands_at_region}
use Rattle.dp_run.proofs.Prints.{first_here}
use Rattle.dp_run.proofs.RegionsLeft.{on_region}
use Rattle.dp_run.proofs.Tops.{regions_numbered}

module _ (m : MachineState) (inlined : IsInlined m.program) (r : ℕ) (once : StandsOnce m.program r) (stands : StandsInMain m.program m.config)
    (comes : part_of m.config.to_do ≡ part.Region r) where
  abbrev run : Run
  run = rest_of_run m

  abbrev region : Stmt
  region = tree.Region r once.site once.cond once.body

  abbrev only : List Event → List Event
  only events = filter (is_event_of m.program r) events

  here : is_region r (out-Stmt region) ≡ true
  here = ap (is_region r) (region_out m.program m.input r once) ∙ eq-eqb r r refl

  left : m.config.to_do ≡ region ∷ once.behind
  left =
      let a = stands_at_region m.program r m.config stands (on_region r m.config comes) in
      a.left ∙ one_place m.program r region here once.behind once.later a.statement a.rest a.at a.before once.before once.earlier (sym a.main_is ∙ once.main_is)

  within : Inside m.program m.input r once (rest_of_run m)
  within = inside m.program m.input r once (fuel_left m) m.config [] left refl refl

  -- a later region starts there
  module _ (q : ℕ) (less : r < q) (i j : ℕ) (e : start (rest_of_run m) q i ≡ Some j) where
    there : FoundAt (stands_at_head q) (rest_of_run m).configs j
    there = found_at (stands_at_head q) (rest_of_run m).configs i j e

    abbrev rest : Run
    rest = run_of m.program m.input (fuel_left m - j) there.found

    kept_there : keeps_all (is_other_site m.program r) r there.found.to_do ≡ true
    kept_there =
        let a = stands_at_region m.program q there.found (stays_in_main m.program m.input inlined.regions (fuel_left m) j m.config there.found stands
        there.at) there.passes in
        ap (keeps_all (is_other_site m.program r) r) a.left
        ∙ none_later m.program r region here once.behind once.later a.statement a.rest q less a.at a.before once.before 1 (length m.program.regions)
        (ap regions_left (sym once.main_is) ∙ regions_numbered m.program inlined) (sym a.main_is ∙ once.main_is)

    quiet_there : Quiet m.program m.input r once (run_of m.program m.input (fuel_left m - j) there.found)
    quiet_there = quiet m.program m.input r once (fuel_left m - j) there.found kept_there

    none_own : only (drop j (rest_of_run m).trace) ≡ []
    none_own = ap only (goes_on m.program m.input (fuel_left m) j q m.config there.found there.at).trace ∙ quiet_there.none

    -- the region's events come before
    own_before : length within.own ≤ j
    own_before =
        let all : only run.trace ≡ within.own =
        ap only within.trace_is ∙ filter-append (is_event_of m.program r) within.own within.behind
        ∙ ap₂ (λ (xs ys : List Event). xs ++ ys) within.all_own within.none_behind ∙ append-nil within.own in
        let parts : only run.trace ≡ only (take j run.trace) =
        ap only (sym (take-append-drop j run.trace)) ∙ filter-append (is_event_of m.program r) (take j run.trace) (drop j run.trace)
        ∙ ap (λ (es : List Event). only (take j run.trace) ++ es) none_own ∙ append-nil (only (take j run.trace)) in
        let size : length within.own ≡ length (only (take j run.trace)) = ap length (sym all ∙ parts) in
        let count = length-filter (is_event_of m.program r) (take j run.trace) in
        let most = count_by-le-length (is_event_of m.program r) (take j run.trace) in
        let short = length-take j run.trace in
        omega (arith, size, count, most, short)

    -- .. and so do the starts of its iterations
    start_before : (a k : ℕ) → start (rest_of_run m) r a ≡ Some k → k < j
    start_before a k s = elim (cases_lt k j) [
      | inl low ↦ low
      | inr high ↦
          let f = found_at (stands_at_head r) run.configs a k s in
          let place : j + (k - j) ≡ k = omega (arith, high) in
          let on = goes_on m.program m.input (fuel_left m) j q m.config there.found there.at in
          let at : slice_get rest.configs (k - j) ≡ Some f.found = ap (λ (cs : List Config). slice_get cs (k - j)) (sym on.configs)
          ∙ sym (at_drop j (k - j) run.configs) ∙ ap (slice_get run.configs) place ∙ f.at in
          absurd (no_place (stands_at_head r) rest.configs 0 (k - j) f.found (quiet_there.no_start 0) at f.passes)
    ]

    stop_before : (a k : ℕ) → start (rest_of_run m) r a ≡ Some k → (o : Option ℕ) → start (rest_of_run m) r (suc a) ≡ o → stop_from (rest_of_run m) k o ≤ j
    stop_before a k s None none = let own = within.stops a k s none in omega (arith, own, own_before)
    stop_before a k s (Some next) e = let low = start_before (suc a) next e in omega (arith, low)

    -- so what its first iterations print is a front of what is printed up to there
    pub prints_before : (count : ℕ) → count ≤ length (starts (rest_of_run m) r) → (more : List ℤ)
        × (prints (take j (rest_of_run m).trace) ≡ prints (events_of_first (rest_of_run m) r count) ++ more)
    prints_before zero h = (prints (take j run.trace), refl)
    prints_before (suc a) h =
        let at = at_index (starts run r) a (omega (arith, h)) in
        let stop = stop_from run at.0 (start run r (suc a)) in
        let size : stop - 0 ≡ stop = omega arith in
        let low = stop_before a at.0 at.1 (start run r (suc a)) refl in
        let events : events_of_first run r (suc a) ≡ take stop run.trace =
        (iterations_adjoin m.program m.input (fuel_left m) m.config r).joined 0 a at.0 (first_here m r comes) at.1 ∙ ap (λ (n : ℕ). take n run.trace) size in
        let sum : j ≡ stop + (j - stop) = omega (arith, low) in
        let more = take (j - stop) (drop stop run.trace) in (
          prints more,
          ap (λ (n : ℕ). prints (take n run.trace)) sum ∙ ap prints (take-add stop (j - stop) run.trace) ∙ prints-append (take stop run.trace) more
              ∙ ap (λ (es : List Event). prints es ++ prints more) (sym events),
        )
