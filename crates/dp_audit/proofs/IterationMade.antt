-- The region's next iteration, however it was made: what it printed, the memory behind it, and how many are begun with it.
use Rattle.std.proofs.Common.{◌≡◌, ◌⊎◌, inl, inr, refl, sym, ap, ◌∙◌, ℕ, suc, ◌+◌, ◌<◌, ◌≤◌, Bool, true, false, ◌||◌, cond, if◌then◌else◌, List, [], ◌∷◌, ◌++◌}
use Rattle.std.proofs.Common.{drop, length, length-append, nat_lt, lt-ltb, le-ltb, Option, Some, None, is_some, slice_get, ℤ, arith}
use Rattle.std.proofs.lemmas.Bool.{cases_Bool, cases_lt, or_right}
use Rattle.std.proofs.Math.Seq.{drop-append_seam}
use Rattle.dp_base.specs.declared.End.{End}
use Rattle.dp_base.specs.declared.End.TheVariants as how
use Rattle.dp_tree.specs.Step.{Config, Event}
use Rattle.dp_tree.specs.Trace.{Run, ended, prints}
use Rattle.dp_tree.specs.Iteration.{begun_count, cells_after, cells_in, closes, has_ended, is_begun, is_closing, is_within, iteration, memory_after, start}
use Rattle.dp_tree.specs.IterationLaws.{events_of_first}
use Rattle.dp_plan.specs.declared.Plan.{Plan}
use Rattle.dp_log.specs.Changes.{memory_behind}
use Rattle.dp_meaning.specs.declared.ends.IterEnd.{IterEnd}
use Rattle.dp_meaning.specs.declared.ends.IterEnd.TheVariants as iter_end
use Rattle.dp_meaning.specs.Continues.{Continues}
use Rattle.dp_meaning.specs.MachineState.{MachineState, fuel_left, rest_of_run}
use Rattle.dp_meaning.specs.Moved.{Moved}
use Rattle.dp_meaning.specs.IterationRun.{IterationGoesOn, HeadsOnce, IterationRun, has_closed}
use Rattle.dp_meaning.proofs.NextLemmas.{on_region}
use Rattle.dp_commit.specs.CommittedState.{CommittedState, region_run, steps_of_first}
use Rattle.dp_commit.proofs.BrokenOff.{broke_off}
use Rattle.dp_commit.proofs.Committing.{held_closed, held_next}
use Rattle.dp_commit.proofs.Going.{started}
use Rattle.dp_commit.proofs.Lists.{get_at_seam}
use Rattle.dp_epoch.specs.declared.account.Account.{Account}
use Rattle.dp_epoch.specs.declared.ends.RegionEnd.{RegionEnd}
use Rattle.dp_epoch.specs.declared.ends.RegionEnd.TheVariants as region_end
use Rattle.dp_epoch.specs.Progress.{Progress}
use Rattle.dp_epoch.specs.Remade.{iteration_end}
use Rattle.dp_audit.specs.Groups.{is_left, is_iteration_over}
use Rattle.dp_epoch.proofs.Here.{at_once, goes_here, once, rest_fuel}
use Rattle.dp_epoch.proofs.Done.{begun_is, some_step}
use Rattle.dp_epoch.proofs.Stopped.{begun_here, events_all, stops_made}

-- the memory after all steps, where the rest makes none
cells_at_end : (run rest : Run) (events : List Event) (configs : List Config) → Continues run events configs rest → (last : Config) → rest.trace ≡ [] →
    rest.configs ≡ last ∷ [] → cells_after run (length run.trace) ≡ last.cells
cells_at_end run rest events configs c last none are =
    let size : length run.trace ≡ length configs = omega (arith, ap length c.trace, length-append events rest.trace, ap length none, c.paired) in
    ap (λ (cs : List Config). cells_in (slice_get cs (length run.trace))) c.configs
    ∙ ap cells_in (get_at_seam configs rest.configs (length run.trace) last [] size are)

module _ (plan : Plan) (first : MachineState) (c : CommittedState) (account : Account) (g : Progress plan first c account) where
  abbrev run : Run
  run = region_run first

  -- it is begun where a step is left
  pub begun_where : is_begun (region_run first) plan.region c.count ≡ nat_lt c.machine.steps c.machine.fuel
  begun_where =
      (let e : c.count ≡ c.count + 0 = omega arith in ap (is_begun run plan.region) e) ∙ (goes_here plan first c account g).begun 0
      ∙ ap (is_within (rest_of_run c.machine).fuel) (at_once plan first c account g) ∙ by (cases_lt c.machine.steps c.machine.fuel)
    where
      by : (c.machine.steps < c.machine.fuel) ⊎ (c.machine.fuel ≤ c.machine.steps) →
          nat_lt 0 (rest_of_run c.machine).fuel ≡ nat_lt c.machine.steps c.machine.fuel
      by (inl h) = lt-ltb 0 (rest_of_run c.machine).fuel (omega (arith, h, rest_fuel c.machine)) ∙ sym (lt-ltb c.machine.steps c.machine.fuel h)
      by (inr h) = le-ltb 0 (rest_of_run c.machine).fuel (omega (arith, h, rest_fuel c.machine)) ∙ sym (le-ltb c.machine.steps c.machine.fuel h)

  module _ (m : MachineState) (turns : ℕ) (printed : List ℤ) where
    -- its prints and its end where it is begun, and the memory behind it
    pub record IsMade (end : IterEnd) : Type 0 where
      pub prints_are : c.machine.steps < c.machine.fuel → printed ≡ prints (iteration (region_run first) plan.region c.count)
      pub over : c.machine.steps < c.machine.fuel → has_ended (region_run first) plan.region c.count ≡ is_iteration_over end
      pub left : c.machine.steps < c.machine.fuel → is_closing (region_run first) plan.region c.count ≡ is_left end
      pub memory : m.config.cells ≡ memory_behind (region_run first) plan.region c.count

    held_made : (end : IterEnd) → is_iteration_over end ≡ true → has_ended run plan.region c.count ≡ true → is_closing run plan.region c.count ≡ is_left end →
        (events : List Event) → printed ≡ prints events → iteration run c.region c.count ≡ events →
        m.config.cells ≡ memory_after run c.region (c.count + 1) → IsMade end
    held_made end ends over left events printed_is is memory = record {
      prints_are = λ h. printed_is ∙ ap prints (sym is ∙ ap (λ (r : ℕ). iteration run r c.count) g.region);
      over = λ h. over ∙ sym ends;
      left = λ h. left;
      memory = memory ∙ (let e : c.count + 1 ≡ suc c.count = omega arith in ap (memory_after run c.region) e)
          ∙ ap (λ (r : ℕ). memory_after run r (suc c.count)) g.region
          ∙ sym (ap (λ (b : Bool). if b then memory_after run plan.region (suc c.count) else cells_after run (length run.trace)) over);
    }

    next_made : IterationRun c.region turns c.machine m [] printed iter_end.Next → IsMade iter_end.Next
    next_made call =
        let h = held_next first c g.holds g.is_open m turns [] printed call in
        let there : start run c.region (c.count + 1) ≡ Some (steps_of_first run c.region (c.count + 1)) =
        h.held.reached ∙ ap (λ (t : Bool). if t then Some (steps_of_first run c.region (c.count + 1)) else None)
        (on_region c.region m.config call.stops.head) in
        let e : suc c.count ≡ c.count + 1 = omega arith in
        let over : has_ended run plan.region c.count ≡ true =
        ap (λ (r : ℕ). has_ended run r c.count) (sym g.region) ∙ ap (λ (o : Option ℕ). is_some o || is_closing run c.region c.count)
        (ap (start run c.region) e ∙ there) in
        let going : is_closing run plan.region c.count ≡ false =
        ap (λ (r : ℕ). is_closing run r c.count) (sym g.region) ∙ ap closes h.iteration_is
        ∙ ap (λ (o : Option ℕ). has_closed o call.events) (sym g.is_open.between) ∙ call.stops.not_closed in
        held_made iter_end.Next refl over going call.events call.moved.prints h.iteration_is h.held.memory

    closed_made : IterationRun c.region turns c.machine m [] printed iter_end.Closed → IsMade iter_end.Closed
    closed_made call =
        let h = held_closed first c g.holds g.is_open m turns [] printed (once plan first c account g c.count _ (started first c g.holds g.is_open)) call in
        let closing : is_closing run plan.region c.count ≡ true =
        ap (λ (r : ℕ). is_closing run r c.count) (sym g.region) ∙ ap closes h.iteration_is
        ∙ ap (λ (o : Option ℕ). has_closed o call.events) (sym g.is_open.between) ∙ call.stops.closed in
        held_made iter_end.Closed refl (or_right (is_some (start run plan.region (suc c.count))) (is_closing run plan.region c.count) closing) closing
        call.events call.moved.prints h.iteration_is h.held.memory

    module _ (events : List Event) (configs : List Config) (went : Moved c.machine m [] printed events configs)
        (heads_once : HeadsOnce c.region c.machine.current configs) (stay : IterationGoesOn c.region c.machine m events)
        (sound : m.spoiled ≡ c.machine.spoiled) (fuel : ℕ) (end : End) (ends : rest_of_run m ≡ ended fuel m.config end) where
      events_are : c.machine.steps < c.machine.fuel → events ≡ iteration (region_run first) plan.region c.count
      events_are h =
          let n : begun_count run plan.region ≡ suc c.count =
          begun_here plan first c account g m [] printed events configs went heads_once stay sound fuel end ends
          ∙ ap (λ (b : Bool). c.count + cond b 1 0) (lt-ltb c.machine.steps c.machine.fuel h)
          ∙ (let e : c.count + 1 ≡ suc c.count = omega arith in e) in
          let all : events_of_first run plan.region c.count ++ events ≡ events_of_first run plan.region c.count ++ iteration run plan.region c.count =
          events_all plan first c account g m [] printed events configs went heads_once stay sound fuel end ends ∙ ap (events_of_first run plan.region) n in
          sym (drop-append_seam (events_of_first run plan.region c.count) events) ∙ ap (drop (length (events_of_first run plan.region c.count))) all
          ∙ drop-append_seam (events_of_first run plan.region c.count) (iteration run plan.region c.count)

      stopped_left : c.machine.steps < c.machine.fuel → is_closing (region_run first) plan.region c.count ≡ false
      stopped_left h = ap closes (sym (events_are h)) ∙ ap (λ (o : Option ℕ). has_closed o events) (sym g.is_open.between) ∙ stay.not_closed

      stopped_made : (how_ended : IterEnd) → is_iteration_over how_ended ≡ false → is_left how_ended ≡ false → IsMade how_ended
      stopped_made how_ended not_over not_left =
          let made = stops_made plan first c account g m [] printed events configs went heads_once stay sound fuel end ends in
          let last : cells_after run (length run.trace) ≡ m.config.cells =
          cells_at_end run (rest_of_run m) (events_of_first run plan.region (begun_count run plan.region)) made.configs made.piece m.config
          (ap (λ (x : Run). x.trace) ends) (ap (λ (x : Run). x.configs) ends) in
          let off = broke_off first c g.holds g.is_open m [] printed events configs went heads_once stay fuel end ends in
          let behind : m.config.cells ≡ memory_after run plan.region (suc c.count) =
          off.memory ∙ (let e : c.count + 1 ≡ suc c.count = omega arith in ap (memory_after run c.region) e)
          ∙ ap (λ (r : ℕ). memory_after run r (suc c.count)) g.region in
          record {
            prints_are = λ h. went.prints ∙ ap prints (events_are h);
            over = λ h.
                (let none : start run plan.region (suc c.count) ≡ None = ap (λ (r : ℕ). start run r (suc c.count)) (sym
                g.region) ∙ (let e : suc c.count ≡ c.count + 1 = omega arith in ap (start run c.region) e) ∙ off.last in
                ap (λ (o : Option ℕ). is_some o || is_closing run plan.region c.count) none ∙ stopped_left h) ∙ sym not_over;
            left = λ h. stopped_left h ∙ sym not_left;
            memory = elim (cases_Bool (has_ended run plan.region c.count)) [
              | inl t ↦ behind ∙ sym (ap (λ (b : Bool). if b then memory_after run plan.region (suc c.count) else cells_after run (length run.trace)) t)
              | inr f ↦ sym last ∙ sym (ap (λ (b : Bool). if b then memory_after run plan.region (suc c.count) else cells_after run (length run.trace)) f)
            ];
          }

    pub iteration_made : (end : Option RegionEnd) → IterationRun c.region turns c.machine m [] printed (iteration_end end) → IsMade (iteration_end end)
    iteration_made None call = next_made call
    iteration_made (Some region_end.Closed) call = closed_made call
    iteration_made (Some (region_end.Fault fault)) call = stopped_made call.events call.configs call.moved call.heads call.stops.0 call.spoiled (fuel_left m)
        (how.Fault fault) call.stops.2.ends (iter_end.Fault fault) refl refl
    iteration_made (Some region_end.Fuel) call =
        stopped_made call.events call.configs call.moved call.heads call.stops.0 call.spoiled 0 how.Fuel call.stops.1.ends iter_end.Fuel refl refl

    -- the iterations that are begun, where it is the last one
    pub begun_with : (end : RegionEnd) → IterationRun c.region turns c.machine m [] printed (iteration_end (Some end)) →
        begun_count (region_run first) plan.region ≡ c.count + cond (nat_lt c.machine.steps c.machine.fuel) 1 0
    begun_with region_end.Closed call =
        begun_is plan first c account g m turns [] printed call
        ∙ ap (λ (b : Bool). c.count + cond b 1 0) (sym (lt-ltb c.machine.steps c.machine.fuel (some_step plan first c account g m turns [] printed call)))
    begun_with (region_end.Fault fault) call = begun_here plan first c account g m [] printed call.events call.configs call.moved call.heads call.stops.0
        call.spoiled (fuel_left m) (how.Fault fault) call.stops.2.ends
    begun_with region_end.Fuel call =
        begun_here plan first c account g m [] printed call.events call.configs call.moved call.heads call.stops.0 call.spoiled 0 how.Fuel call.stops.1.ends

    -- a step was left for it, or the fuel is spent
    pub begun_or_spent : (end : Option RegionEnd) → IterationRun c.region turns c.machine m [] printed (iteration_end end) → (c.machine.steps < c.machine.fuel)
        ⊎ (iteration_end end ≡ iter_end.Fuel)
    begun_or_spent None call = let made = call.stops.some g.is_open.between in inl (omega (arith, made, call.moved.run.fuel, rest_fuel c.machine))
    begun_or_spent (Some region_end.Closed) call = inl (some_step plan first c account g m turns [] printed call)
    begun_or_spent (Some (region_end.Fault fault)) call = inl (omega (arith, call.stops.2.within, call.moved.steps, call.moved.fuel))
    begun_or_spent (Some region_end.Fuel) call = inr refl
