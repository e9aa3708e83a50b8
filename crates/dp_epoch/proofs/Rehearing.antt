-- The events of an iteration that is executed again, as the stages see them.
use Rattle.std.proofs.Common.{◌≡◌, ◌⊎◌, inl, inr, refl, sym, ap, ◌∙◌, subst, ℕ, suc, ◌+◌, Bool, true, false, ◌||◌, is_some, length, List, [], ◌∷◌, ℤ, Option}
use Rattle.std.proofs.Common.{Some, None, arith}
use Rattle.dp_base.specs.declared.End.TheVariants as how
use Rattle.dp_tree.specs.Step.{Event}
use Rattle.dp_tree.specs.Trace.{Run}
use Rattle.dp_tree.specs.Iteration.{closes, has_ended, is_closing, iteration, start}
use Rattle.dp_plan.specs.declared.Plan.{Plan}
use Rattle.dp_semantics.specs.Recovery.{epoch}
use Rattle.dp_meaning.specs.declared.ends.IterEnd.TheVariants as iter_end
use Rattle.dp_meaning.specs.IterationRun.{has_closed}
use Rattle.dp_meaning.specs.MachineState.{MachineState, fuel_left, rest_of_run}
use Rattle.dp_meaning.proofs.NextLemmas.{on_region}
use Rattle.dp_commit.specs.CommittedState.{CommittedState, region_run, steps_of_first}
use Rattle.dp_commit.proofs.Committing.{held_next}
use Rattle.dp_view.specs.Following.{KeptBefore}
use Rattle.dp_view.specs.Heard.{Comes, Hears, LoadsFrom}
use Rattle.dp_view.specs.Viewed.{Viewed, after_all}
use Rattle.dp_epoch.specs.declared.account.Account.{Account}
use Rattle.dp_epoch.specs.declared.ends.RegionEnd.{RegionEnd}
use Rattle.dp_epoch.specs.declared.ends.RegionEnd.TheVariants as region_end
use Rattle.dp_epoch.specs.Accounts.{run_end}
use Rattle.dp_epoch.specs.Progress.{Progress}
use Rattle.dp_epoch.specs.Remade.{Remade, iteration_end}
use Rattle.dp_epoch.proofs.Carrying.{iteration_same}
use Rattle.dp_epoch.proofs.Done as done
use Rattle.dp_epoch.proofs.SeenLemmas.{loads}
use Rattle.dp_epoch.proofs.Stopped as stopped

no_events : (es : List Event) → length es ≡ 0 → es ≡ []
no_events [] e = refl
no_events (x ∷ es) e = absurd (omega (arith, e))

or_true : (a b : Bool) → b ≡ true → (a || b) ≡ true
or_true true b e = refl
or_true false b e = e

module _ (plan : Plan) (first : MachineState) (c : CommittedState) (account : Account) (g : Progress plan first c account) (new : CommittedState)
    (printed : List ℤ) where
  abbrev run : Run
  run = region_run first

  -- the next iteration comes
  module _ (s : Remade c new printed iter_end.Next) where
    next_events : iteration run plan.region c.count ≡ s.call.events
    next_events = ap (λ (r : ℕ). iteration run r c.count) (sym g.region)
        ∙ (held_next first c g.holds g.is_open new.machine s.turns [] printed s.call).iteration_is

    pub going_on : is_closing (region_run first) plan.region c.count ≡ false
    going_on = ap closes next_events ∙ ap (λ (o : Option ℕ). has_closed o s.call.events) (sym g.is_open.between) ∙ s.call.stops.not_closed

    starts_next : start run plan.region (suc c.count) ≡ Some (steps_of_first run c.region (c.count + 1))
    starts_next =
        let held = (held_next first c g.holds g.is_open new.machine s.turns [] printed s.call).held in
        let this : suc c.count ≡ c.count + 1 = omega arith in
        ap (start run plan.region) this ∙ ap (λ (r : ℕ). start run r (c.count + 1)) (sym g.region)
        ∙ (rw (on_region c.region new.machine.config s.call.stops.head) at held.reached)

    pub ended_next : has_ended (region_run first) plan.region c.count ≡ true
    ended_next = ap (λ (o : Option ℕ). is_some o || is_closing run plan.region c.count) starts_next

  -- the iteration is what was made
  pub events_made : (end : Option RegionEnd) (s : Remade c new printed (iteration_end end)) → iteration (region_run first) plan.region c.count ≡ s.call.events
  events_made None s = next_events s
  events_made (Some region_end.Closed) s = done.events_are plan first c account g new.machine s.turns [] printed s.call
  events_made (Some (region_end.Fault fault)) s =
      iteration_same plan first c account g
      ∙ stopped.iteration_is plan first c account g new.machine [] printed s.call.events s.call.configs s.call.moved s.call.heads s.call.stops.0 s.call.spoiled
      (fuel_left new.machine) (how.Fault fault) s.call.stops.2.ends
  events_made (Some region_end.Fuel) s =
      iteration_same plan first c account g
      ∙ stopped.iteration_is plan first c account g new.machine [] printed s.call.events s.call.configs s.call.moved s.call.heads s.call.stops.0 s.call.spoiled
      0 how.Fuel s.call.stops.1.ends

  ahead : (end : Option RegionEnd) (s : Remade c new printed (iteration_end end)) → run.end ≡ (rest_of_run new.machine).end
  ahead end s = g.holds.piece.end ∙ s.call.moved.run.end

  -- it has ended, or the run ends so in it
  pub ends_so : (end : Option RegionEnd) → Remade c new printed (iteration_end end) → (has_ended (region_run first) plan.region c.count ≡ true)
      ⊎ ((region_run first).end ≡ run_end end)
  ends_so None s = inl (ended_next s)
  ends_so (Some region_end.Closed) s =
      inl (or_true (is_some (start run plan.region (suc c.count))) (is_closing run plan.region c.count)
      (done.closing_here plan first c account g new.machine s.turns [] printed s.call))
  ends_so (Some (region_end.Fault fault)) s = inr (ahead (Some (region_end.Fault fault)) s ∙ ap (λ (x : Run). x.end) s.call.stops.2.ends)
  ends_so (Some region_end.Fuel) s = inr (ahead (Some region_end.Fuel) s ∙ ap (λ (x : Run). x.end) s.call.stops.1.ends)

  -- What the stages see behind it is what they see behind its events.
  pub heard_all : (end : Option RegionEnd) (s : Remade c new printed (iteration_end end)) (v w : Viewed) →
      KeptBefore first.program plan (region_run first) (epoch first.program plan (region_run first) c.count) c.count v → Hears c.machine new.machine v w →
      w ≡ after_all (iteration (region_run first) plan.region c.count) v
  heard_all end s v w kept hears =
      let comes : Comes c.machine new.machine.steps v.source s.call.events (rest_of_run new.machine).trace = record {
        trace = s.call.moved.run.trace;
        steps = sym s.call.moved.steps;
        loads = subst (LoadsFrom v.source) (events_made end s) (loads plan first c account g v kept);
      } in
      let got = hears new.machine.steps s.call.events (rest_of_run new.machine).trace comes (omega arith) in
      let size = got.1.steps in
      let none : got.0 ≡ [] = no_events got.0 (omega (arith, size)) in
      ap (λ (es : List Event). after_all es w) (sym none) ∙ got.2 ∙ ap (λ (es : List Event). after_all es v) (sym (events_made end s))
