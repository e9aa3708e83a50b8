-- The machine that makes the next iteration at once, against a call of `iterate` that makes all its steps.
use Rattle.dp_meaning.proofs.Names.{All, append-nil, begins_with, Program, Part, run_of, ◌≡◌, ◌≢◌, refl, sym, ap, ◌∙◌, subst, ℕ, ◌+◌, ◌<◌, Bool, true, false}
use Rattle.dp_meaning.proofs.Names.{if◌then◌else◌, List, [], ◌∷◌, ◌++◌, drop, length, Option, None, ℤ, arith, StoreOf, Stmt, Config, Event, standing}
use Rattle.dp_meaning.proofs.Names.{behind_region, cleared_leaving, clear_locals, Run, prints, places, stands_at_head, iteration, closes, last_events}
use Rattle.dp_meaning.proofs.Names.{Continues, MachineState, fuel_left, rest_of_run, part_of, next_part, from_region, IterationRun, IterationStops, HeadsOnce}
use Rattle.dp_meaning.proofs.Names.{stores_of, with_stores, NextIteration, end_of_iteration, MachineIsSound, IsEndOfMain}
use Rattle.dp_meaning.specs.declared.ends.Part.TheVariants as part
use Rattle.dp_meaning.specs.steps.Stretch.{LeavesBehind, StandsThen, is_closed, has_left, upto_left, HeadsHere}
use Rattle.dp_meaning.proofs.FollowedLemmas.{left_behind}
use Rattle.dp_meaning.proofs.NextLemmas.{on_region, run_begins, next_events, last_front, last_iteration, open_iteration}
use Rattle.dp_meaning.proofs.QuietLemmas.{never_again}
use Rattle.dp_meaning.proofs.ShapeLemmas.{not_plain, at_end}
use Rattle.dp_meaning.proofs.SkipLemmas.{after_events, stores_are_changes, cleared_still, leaving_at, standing_alike}
use Rattle.dp_meaning.proofs.StopLemmas.{part_idle, from_region-over}
use Rattle.dp_meaning.proofs.StretchLemmas.{IsPlain}
use Rattle.dp_meaning.proofs.StretchEnds.{at_head, stops}
use Rattle.dp_meaning.proofs.WalkLemmas.{memory_after, Whole, Outcome, ends, stuck, walk}

-- the first configuration, and the plain ones behind it
record Begins (c : Config) (configs : List Config) : Type 0 where
  rest : List Config
  is : configs ≡ c ∷ rest
  plain : All IsPlain rest

begins : (c : Config) (configs : List Config) → HeadsHere c configs → 0 < length configs → Begins c configs
begins c [] h some = absurd (omega (arith, some))
begins c (d ∷ rest) h some = record { rest = rest; is = ap (λ (e : Config). e ∷ rest) h.0; plain = h.1 }

pub some_events : (es : List Event) → closes es ≡ true → 0 < length es
some_events [] e = absurd (cc)
some_events (x ∷ es) e = omega arith

module _ (region : ℕ) (m : MachineState) (made : List StoreOf) (steps : ℕ) (closing : Bool) (idle : m.current ≡ None) (named : next_part m ≡ part.Region region)
    (sound : MachineIsSound m.program m.config m.current m.steps m.fuel) (next : NextIteration region m made steps closing) where
  here : part_of m.config.to_do ≡ part.Region region
  here = sym (part_idle m idle) ∙ named

  over : from_region m.config.to_do ≡ m.config.to_do
  over = from_region-over m.config.to_do (not_plain (part_of m.config.to_do) region here)

  stands : IsEndOfMain m.program m.config
  stands = at_end m.program m.config sound.stands (not_plain (part_of m.config.to_do) region here)

  -- the configuration behind the iteration
  abbrev pub behind_it : Bool → Config
  behind_it b = if b then standing m.program (behind_region m.config.to_do) (cleared_leaving m.program m.config.to_do (with_stores made m.config.cells))
      else standing m.program m.config.to_do (with_stores made m.config.cells)

  abbrev pub skipped : MachineState
  skipped = record m { config = behind_it closing; steps = m.steps + steps }

  abbrev run : Run
  run = rest_of_run m

  -- the iteration ends so, with all its events
  record Found (b : Bool) : Type 0 where
    whole : Whole region (fuel_left m) m [] b
    is : iteration run region 0 ≡ whole.run.events

  -- behind the region it doesn't come again
  quiet : (n : ℕ) (p : Program) (input : List ℤ) → p ≡ m.program → (c : Config) → c.to_do ≡ drop 1 m.config.to_do → (k : ℕ) →
      places (stands_at_head region) k (run_of p input n c).configs ≡ []
  quiet n p input same c e =
      subst (λ (q : Program). (k : ℕ) → places (stands_at_head region) k (run_of q input n c).configs ≡ []) (sym same) (by m.config.to_do refl)
    where
      by : (xs : List Stmt) → m.config.to_do ≡ xs → (k : ℕ) → places (stands_at_head region) k (run_of m.program input n c).configs ≡ []
      by [] f = let none : part.Finished ≡ part.Region region = sym (ap part_of f) ∙ here in absurd (cc none)
      by (x ∷ rest) f =
          never_again m.program sound.inlined region stands.before x rest (stands.main_is ∙ ap (λ (xs : List Stmt). stands.before ++ xs) f)
          (sym (ap (begins_with region) f) ∙ on_region region m.config here) input n c (e ∙ ap (drop 1) f)

  module _ (b : Bool) (w : Whole region (fuel_left m) m [] b) where
    abbrev es : List Event
    es = w.run.events

    first : 0 < length es → Begins m.config w.run.configs
    first some = let size = w.run.moved.run.paired in begins m.config w.run.configs w.run.heads (omega (arith, some, size))

    are : (f : Begins m.config w.run.configs) → run.configs ≡ m.config ∷ f.rest ++ (rest_of_run w.new).configs
    are f = w.run.moved.run.configs ∙ ap (λ (cs : List Config). cs ++ (rest_of_run w.new).configs) f.is

    sizes : (f : Begins m.config w.run.configs) → length es ≡ 1 + length f.rest
    sizes f = let size = w.run.moved.run.paired in let count = ap length f.is in omega (arith, size, count)

    left_so : closes es ≡ is_closed (end_of_iteration b)
    left_so = sym (ap (λ (q : Part). has_left q es) here) ∙ w.run.left

    last_so : last_events es ≡ es
    last_so = sym (ap (λ (q : Part). upto_left q es) here) ∙ w.run.last

  to_found : (b : Bool) → Whole region (fuel_left m) m [] b → (closing ≡ b) × Found b
  to_found false w =
      let f = first false w w.run.stands.2 in
      let begins = run_begins w.new.program w.new.input (fuel_left w.new) w.new.config in
      let head : part_of w.new.config.to_do ≡ part.Region region = ap part_of (sym (from_region-over w.new.config.to_do w.run.stands.1)
      ∙ w.run.behind ∙ over) ∙ here in
      let is = next_events region run m.config f.rest (rest_of_run w.new).configs here (are false w f) f.plain w.new.config begins.0 w.run.events
      (rest_of_run w.new).trace begins.1 head (sizes false w f) w.run.moved.run.trace in
      (next.closing_is ∙ ap closes is ∙ left_so false w, record { whole = w; is = is })
  to_found true w =
      let f = first true w (some_events w.run.events (left_so true w)) in
      let none = quiet (fuel_left w.new) w.new.program w.new.input w.run.moved.program w.new.config (w.run.behind ∙ ap (drop 1) over) (1 + length f.rest) in
      let is = last_iteration region run m.config f.rest (rest_of_run w.new).configs here (are true w f) f.plain w.run.events (rest_of_run w.new).trace none
      w.run.moved.run.trace (last_front w.run.events (rest_of_run w.new).trace (left_so true w) ∙ last_so true w) in
      (next.closing_is ∙ ap closes is.1 ∙ left_so true w, record { whole = w; is = is.1 })

  found : Found closing
  found = by (walk region (fuel_left m) m [] refl sound named (λ h. cleared_still m.program m.config.to_do region m.config stands.cells here stands.config_is))
    where
      by : Outcome region (fuel_left m) m [] → Found closing
      by (ends b w) = let f = to_found b w in subst Found (sym f.0) f.1
      by (stuck s) =
          let open_yet = open_iteration region run m.config s.configs [] here (s.are ∙ ap (λ (cs : List Config). m.config ∷ cs) (sym (append-nil s.configs)))
          s.plain refl (sym (ap (λ (q : Part). has_left q run.trace) here) ∙ s.open_yet) in
          let clash : false ≡ true = sym open_yet ∙ next.ended in absurd (cc clash)

  abbrev whole : Whole region (fuel_left m) m [] closing
  whole = found.whole

  size : steps ≡ length whole.run.events
  size = next.steps_are ∙ ap length found.is

  cells_are : clear_locals region m.program.vars (with_stores made m.config.cells) ≡ clear_locals region m.program.vars
      (after_events whole.run.events m.config.cells)
  cells_are =
      next.stores_lead m.config.cells
      ∙ ap (clear_locals region m.program.vars) (ap (λ (es : List Event). with_stores (stores_of es) m.config.cells) found.is
      ∙ stores_are_changes whole.run.events m.config.cells)

  -- it stands where the iteration ends
  config_by : (b : Bool) (c : Config) (es : List Event) → c ≡ standing m.program c.to_do (memory_after region b m.program es m.config.cells)
      → clear_locals region m.program.vars (with_stores made m.config.cells) ≡ clear_locals region m.program.vars (after_events es m.config.cells)
      → LeavesBehind (end_of_iteration b) (from_region m.config.to_do) c.to_do → (b ≡ false → part_of c.to_do ≢ part.Plain) → c ≡ behind_it b
  config_by true c es memory same behind head =
      memory ∙ ap (λ (xs : List Stmt). standing m.program xs (clear_locals region m.program.vars (after_events es m.config.cells))) (behind
      ∙ sym (left_behind m.config.to_do))
      ∙ ap (standing m.program (behind_region m.config.to_do)) (sym same
      ∙ sym (leaving_at m.program m.config.to_do region (with_stores made m.config.cells) here))
  config_by false c es memory same behind head =
      memory ∙ ap (λ (xs : List Stmt). standing m.program xs (after_events es m.config.cells)) (sym (from_region-over c.to_do (head refl)) ∙ behind ∙ over)
      ∙ standing_alike m.program m.config.to_do region (after_events es m.config.cells) (with_stores made m.config.cells) here (sym same)

  ended : (b : Bool) (old new : MachineState) (es : List Event) → StandsThen (end_of_iteration b) old new es → (new.current ≡ None)
      × (b ≡ false → part_of new.config.to_do ≢ part.Plain)
  ended true old new es h = (h.0, λ e. absurd (cc e))
  ended false old new es h = (h.0, λ e. h.1)

  same : whole.new ≡ skipped
  same =
      let moved = whole.run.moved in
      let at_end = ended closing m whole.new whole.run.events whole.run.stands in
      let config = config_by closing whole.new.config whole.run.events whole.memory cells_are whole.run.behind at_end.1 in
      let steps_are : whole.new.steps ≡ m.steps + steps = moved.steps ∙ ap (λ (k : ℕ). m.steps + k) (sym size) in
      λ i. record {
        program = moved.program i;
        input = moved.input i;
        config = config i;
        steps = steps_are i;
        fuel = moved.fuel i;
        current = (at_end.0
            ∙ sym idle) i;
        spoiled = whole.run.spoiled i;
      }

  -- The machine stays sound.
  pub sound_after : MachineIsSound m.program (behind_it closing) m.current (m.steps + steps) m.fuel
  sound_after = subst (λ (n : MachineState). MachineIsSound n.program n.config n.current n.steps n.fuel) same whole.sound

  retimed : (b : Bool) (new : MachineState) (es : List Event) → IterationStops region (fuel_left m) m new es (end_of_iteration b) →
      IterationStops region steps m new es (end_of_iteration b)
  retimed true new _ h = h
  retimed false new _ h = h

  -- It stands where the call of `iterate` with as many turns leaves it.
  pub skips : (out : List ℤ) → IterationRun region steps m skipped out (out ++ prints (iteration run region 0)) (end_of_iteration closing)
  skips out = record {
    events = whole.run.events;
    configs = whole.run.configs;
    moved = record {
      run = subst (λ (n : MachineState). Continues run whole.run.events whole.run.configs (rest_of_run n)) same whole.run.moved.run;
      prints = ap (λ (es : List Event). out ++ prints es) found.is;
      steps = ap (λ (k : ℕ). m.steps + k) size;
      program = refl;
      input = refl;
      fuel = refl;
    };
    heads = subst (λ (o : Option ℕ). HeadsOnce region o whole.run.configs) (sym idle) (at_head region m.config here whole.run.configs whole.run.heads);
    within = omega (arith, size);
    stops = retimed closing skipped whole.run.events
        (subst (λ (n : MachineState). IterationStops region (fuel_left m) m n whole.run.events (end_of_iteration closing)) same
        (stops region (fuel_left m) m whole.new [] whole.after sound.under_way named (end_of_iteration closing) whole.run));
    spoiled = refl;
  }
