-- A call of the machine that was cut by its turns, and the call that goes on, are one call.
use Rattle.std.proofs.Common.{◌≡◌, refl, sym, ap, ◌∙◌, subst, ℕ, ◌+◌, ◌<◌, false, List, [], ◌∷◌, ◌++◌, drop, length, length-append, ℤ, Option, Some, None}
use Rattle.std.proofs.Common.{arith}
use Rattle.std.proofs.lemmas.Bool.{or_parts}
use Rattle.std.proofs.lemmas.List.Elements.{All-append}
use Rattle.std.specs.List.{list_any}
use Rattle.dp_tree.specs.Step.{Config, Event}
use Rattle.dp_tree.specs.Trace.{prints}
use Rattle.dp_tree.specs.Iteration.{decides_zero, leaves, is_leaving, upto_leaving}
use Rattle.dp_meaning.specs.declared.ends.Part.TheVariants as part
use Rattle.dp_meaning.specs.declared.ends.IterEnd.{IterEnd}
use Rattle.dp_meaning.specs.declared.ends.IterEnd.TheVariants as iter_end
use Rattle.dp_meaning.specs.MachineState.{MachineState, rest_of_run, part_of}
use Rattle.dp_meaning.specs.IterationRun.{IterationRun, IterationStops, HeadsOnce, IterationGoesOn, has_closed, upto_closing, current_after}
use Rattle.dp_commit.proofs.Committing.{join}
use Rattle.dp_meaning.proofs.MovedLemmas.{prints-append}
use Rattle.dp_tree.proofs.Leaving.{upto_more}

-- the same steps, where no other prints stand before
pub alone : (region turns : ℕ) (old new : MachineState) (before after : List ℤ) (end : IterEnd) (call : IterationRun region turns old new before after end) →
    IterationRun region turns old new [] (prints call.events) end
alone region turns old new before after end call = record {
  events = call.events;
  configs = call.configs;
  moved = record {
    run = call.moved.run;
    prints = refl;
    steps = call.moved.steps;
    program = call.moved.program;
    input = call.moved.input;
    fuel = call.moved.fuel;
  };
  heads = call.heads;
  within = call.within;
  stops = call.stops;
  spoiled = call.spoiled;
}

-- An iteration: after some steps it is under way.
pub under_way : (region : ℕ) (current : Option ℕ) (events : List Event) → 0 < length events → current_after region current events ≡ Some region
under_way region current [] h = absurd (omega (arith, h))
under_way region current (event ∷ events) h = refl

none_left : (es fs : List Event) → list_any is_leaving es ≡ false → list_any is_leaving (es ++ fs) ≡ list_any is_leaving fs
none_left [] fs h = refl
none_left (e ∷ es) fs h = let both = or_parts (leaves e.effect) (list_any is_leaving es) h in rw (both.0) (none_left es fs both.1)

pub closed_front : (current : Option ℕ) (events more : List Event) → 0 < length events → has_closed current events ≡ false →
    has_closed current (events ++ more) ≡ list_any is_leaving more
closed_front (Some r) events more h e = none_left events more e
closed_front None [] more h e = absurd (omega (arith, h))
closed_front None (event ∷ events) more h e =
    let both = or_parts (decides_zero event.effect) (list_any is_leaving (event ∷ events)) e in rw (both.0) (none_left (event ∷ events) more both.1)

pub upto_front : (current : Option ℕ) (events more : List Event) → 0 < length events → has_closed current events ≡ false →
    upto_closing current (events ++ more) ≡ events ++ upto_leaving more
upto_front (Some r) events more h e = upto_more events more e
upto_front None [] more h e = absurd (omega (arith, h))
upto_front None (event ∷ events) more h e =
    let both = or_parts (decides_zero event.effect) (list_any is_leaving (event ∷ events)) e in rw (both.0) (upto_more (event ∷ events) more both.1)

current_front : (region : ℕ) (current : Option ℕ) (events more : List Event) → 0 < length events →
    current_after region (Some region) more ≡ current_after region current (events ++ more)
current_front region current [] more h = absurd (omega (arith, h))
current_front region current (event ∷ events) [] h = refl
current_front region current (event ∷ events) (other ∷ more) h = refl

heads_join : (region : ℕ) (current : Option ℕ) (configs others : List Config) → 0 < length configs → HeadsOnce region current configs →
    HeadsOnce region (Some region) others → HeadsOnce region current (configs ++ others)
heads_join region (Some r) configs others h a b = All-append (λ c. part_of c.to_do ≡ part.Plain) configs others a b
heads_join region None [] others h a b = absurd (omega (arith, h))
heads_join region None (c ∷ configs) others h a b = (a.0, All-append (λ d. part_of d.to_do ≡ part.Plain) configs others a.1 b)

module _ (region turns more : ℕ) (old mid new : MachineState) (first second : List ℤ) (some : 0 < turns)
    (a : IterationRun region turns old mid [] first iter_end.Going) where
  made : 0 < length a.events
  made = omega (arith, some, a.stops.2)

  current_is : mid.current ≡ Some region
  current_is = a.stops.0.current ∙ under_way region old.current a.events made

  closed_is : (events : List Event) → has_closed old.current (a.events ++ events) ≡ has_closed mid.current events
  closed_is events = closed_front old.current a.events events made a.stops.0.not_closed ∙ ap (λ (o : Option ℕ). has_closed o events) (sym current_is)

  goes_on : (events : List Event) → IterationGoesOn region mid new events → IterationGoesOn region old new (a.events ++ events)
  goes_on events g = record {
    not_closed = closed_is events ∙ g.not_closed;
    current = g.current ∙ ap (λ (o : Option ℕ). current_after region o events) current_is ∙ current_front region old.current a.events events made;
    awaits = g.awaits;
    behind = g.behind ∙ a.stops.0.behind;
  }

  iteration_stops : (end : IterEnd) (b : IterationRun region more mid new [] second end) →
      IterationStops region (turns + more) old new (a.events ++ b.events) end
  iteration_stops iter_end.Next b = record {
    not_closed = closed_is b.events ∙ b.stops.not_closed;
    current = b.stops.current;
    head = b.stops.head;
    rest = b.stops.rest ∙ a.stops.0.behind;
    some = λ e. omega (arith, made, length-append a.events b.events);
  }
  iteration_stops iter_end.Closed b = record {
    closed = closed_is b.events ∙ b.stops.closed;
    last = upto_front old.current a.events b.events made a.stops.0.not_closed
        ∙ ap (λ (es : List Event). a.events ++ es) (ap (λ (o : Option ℕ). upto_closing o b.events) (sym current_is) ∙ b.stops.last);
    current = b.stops.current;
    rest = b.stops.rest ∙ ap (drop 1) a.stops.0.behind;
  }
  iteration_stops (iter_end.Fault fault) b = (goes_on b.events b.stops.0, omega (arith, b.stops.1, a.within, length-append a.events b.events), b.stops.2)
  iteration_stops iter_end.Fuel b = (goes_on b.events b.stops.0, b.stops.1)
  iteration_stops iter_end.Going b = (goes_on b.events b.stops.0, b.stops.1, omega (arith, b.stops.2, a.stops.2, length-append a.events b.events))

  pub iteration_join : (end : IterEnd) → IterationRun region more mid new [] second end → IterationRun region (turns + more) old new [] (first ++ second) end
  iteration_join end b = record {
    events = a.events ++ b.events;
    configs = a.configs ++ b.configs;
    moved = record {
      run = join (rest_of_run old) (rest_of_run mid) (rest_of_run new) a.events b.events a.configs b.configs a.moved.run b.moved.run;
      prints = ap (λ (xs : List ℤ). xs ++ second) a.moved.prints ∙ ap (λ (xs : List ℤ). prints a.events ++ xs) b.moved.prints
          ∙ sym (prints-append a.events b.events);
      steps = omega (arith, a.moved.steps, b.moved.steps, length-append a.events b.events);
      program = b.moved.program ∙ a.moved.program;
      input = b.moved.input ∙ a.moved.input;
      fuel = b.moved.fuel ∙ a.moved.fuel;
    };
    heads = heads_join region old.current a.configs b.configs (omega (arith, made, a.moved.run.paired)) a.heads
        (subst (λ (o : Option ℕ). HeadsOnce region o b.configs) current_is b.heads);
    within = omega (arith, a.within, b.within, length-append a.events b.events);
    stops = iteration_stops end b;
    spoiled = b.spoiled ∙ a.spoiled;
  }
