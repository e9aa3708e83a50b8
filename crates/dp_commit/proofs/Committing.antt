-- One more iteration is committed, from the pipeline or by re-execution: what is held stays the source's.
use Rattle.std.proofs.Common.{◌≡◌, refl, sym, ap, ◌∙◌, subst, ℕ, suc, ◌+◌, ◌-◌, ◌<◌, inl, inr, true, false, if◌then◌else◌, List, [], ◌∷◌, ◌++◌, All, length}
use Rattle.std.proofs.Common.{length-append, drop, Option, Some, None, slice_get, ℤ, arith}
use Rattle.std.proofs.lemmas.List.Elements.{All-weaker, All-cons, All-append}
use Rattle.std.specs.List.{list_all}
use Rattle.dp_tree.specs.Step.{Config, Event}
use Rattle.dp_tree.specs.Trace.{Run}
use Rattle.dp_tree.specs.Iteration.{stands_at_head, start, stop_from, iteration, is_closing, last_events, closes, cells_in, cells_after, memory_from}
use Rattle.dp_tree.specs.Iteration.{memory_after}
use Rattle.dp_tree.specs.IterationLaws.{events_of_first}
use Rattle.dp_tree.specs.GoesOn.{moved}
use Rattle.dp_meaning.specs.declared.ends.Part.TheVariants as part
use Rattle.dp_meaning.specs.declared.ends.IterEnd.TheVariants.{Next, Closed}
use Rattle.dp_meaning.specs.MachineState.{MachineState, fuel_left, rest_of_run, part_of}
use Rattle.dp_meaning.specs.Continues.{Continues}
use Rattle.dp_meaning.specs.Moved.{Moved}
use Rattle.dp_meaning.specs.IterationRun.{IterationRun, HeadsOnce, has_closed, upto_closing}
use Rattle.dp_commit.specs.CommittedState.{CommittedState, IsOpen, HoldsCommitted, IsInside, region_run, steps_of_first}
use Rattle.dp_commit.proofs.Lists.{get_at_seam}
use Rattle.dp_commit.proofs.Parts.{is_off, never_plain, on_region, run_begins}
use Rattle.dp_commit.proofs.Heads as heads
use Rattle.dp_commit.proofs.Going.{goes, started}
pub use Rattle.dp_meaning.proofs.ContinuesLemmas.{continues_join as join}
use Rattle.dp_meaning.proofs.NextLemmas.{last_front}
use Rattle.std.proofs.Math.Seq.{drop-append_seam}
use Rattle.dp_meaning.proofs.SkipRunLemmas.{some_events}

-- the configurations of an iteration that begins in this call: the first at the region's condition, the others inside
pub record Headed (r : ℕ) (configs : List Config) : Type 0 where
  pub first : Config
  pub inner : List Config
  pub is : configs ≡ first ∷ inner
  pub on : part_of first.to_do ≡ part.Region r
  pub plain : All (λ d. part_of d.to_do ≡ part.Plain) inner

pub headed : (r : ℕ) (configs : List Config) → 0 < length configs → HeadsOnce r None configs → Headed r configs
headed r [] some h = absurd (omega (arith, some))
headed r (c ∷ inner) some h = record { first = c; inner = inner; is = refl; on = h.0; plain = h.1 }

module _ (first : MachineState) (c : CommittedState) (h : HoldsCommitted first c) (o : IsOpen c) (m : MachineState) where
  abbrev run : Run
  run = region_run first

  abbrev rest : Run
  rest = rest_of_run c.machine

  abbrev i : ℕ
  i = c.count

  abbrev made : ℕ
  made = steps_of_first (region_run first) c.region c.count

  -- the committed state with this machine, n iterations committed
  abbrev pub state : ℕ → CommittedState
  state n = record c { machine = m; count = n }

  begins : (more : List Config) × ((rest_of_run m).configs ≡ m.config ∷ more)
  begins = run_begins m.program m.input (fuel_left m) m.config

  iteration_same : iteration run c.region i ≡ iteration rest c.region 0
  iteration_same = (let e : i ≡ i + 0 = omega arith in ap (iteration run c.region) e) ∙ (goes first c h o).iterations 0

  start_then : start run c.region (i + 1) ≡ moved made (start rest c.region 1)
  start_then = (goes first c h o).started 1

  module _ (before after : List ℤ) (events : List Event) (configs : List Config) (went : Moved c.machine m before after events configs)
      (q : Headed c.region configs) where
    piece : Continues rest events (q.first ∷ q.inner) (rest_of_run m)
    piece = subst (λ (cs : List Config). Continues rest events cs (rest_of_run m)) q.is went.run

    on : stands_at_head c.region q.first ≡ true
    on = on_region c.region q.first q.on

    off : list_all (is_off c.region) q.inner ≡ true
    off = never_plain c.region q.inner q.plain

    inside_call : All (IsInside c.region) configs
    inside_call =
        subst (All (IsInside c.region)) (sym q.is) (All-cons (IsInside c.region) q.first q.inner (inl q.on)
        (All-weaker (λ d. part_of d.to_do ≡ part.Plain) (IsInside c.region) (λ d e. inr e) q.inner q.plain))

    module _ (is : iteration rest c.region 0 ≡ events) where
      events_are : events_of_first run c.region (suc i) ≡ events_of_first run c.region i ++ events
      events_are = ap (λ (es : List Event). events_of_first run c.region i ++ es) (iteration_same ∙ is)

      size : steps_of_first run c.region (suc i) ≡ made + length events
      size = ap length events_are ∙ length-append (events_of_first run c.region i) events

      whole : Continues run (events_of_first run c.region (suc i)) (h.configs ++ configs) (rest_of_run m)
      whole = subst (λ (es : List Event). Continues run es (h.configs ++ configs) (rest_of_run m)) (sym events_are)
          (join run rest (rest_of_run m) (events_of_first run c.region i) events h.configs configs h.piece went.run)

      cells_there : cells_after run (steps_of_first run c.region (suc i)) ≡ m.config.cells
      cells_there = ap cells_in (ap (λ (cs : List Config). slice_get cs (steps_of_first run c.region (suc i))) whole.configs
          ∙ get_at_seam (h.configs ++ configs) (rest_of_run m).configs (steps_of_first run c.region (suc i)) m.config begins.0 (sym whole.paired) begins.1)

      held_by : m.config.cells ≡ memory_after run c.region (suc i) →
          start run c.region (suc i) ≡ (if stands_at_head c.region m.config then Some (steps_of_first run c.region (suc i)) else None) →
          HoldsCommitted first (state (suc i))
      held_by memory reached = record {
        memory = memory;
        steps = omega (arith, went.steps, h.steps, size);
        configs = h.configs ++ configs;
        piece = whole;
        inside = All-append (IsInside c.region) h.configs configs h.inside inside_call;
        reached = reached;
        program = went.program ∙ h.program;
        input = went.input ∙ h.input;
        fuel = went.fuel ∙ h.fuel;
      }

    -- the condition stands there again
    module _ (there : part_of m.config.to_do ≡ part.Region c.region) where
      at : stands_at_head c.region m.config ≡ true
      at = on_region c.region m.config there

      is_next : iteration rest c.region 0 ≡ events
      is_next = heads.next_is c.region rest (rest_of_run m) events q.first q.inner piece on off m.config begins.0 begins.1 at

      start_is : start run c.region (suc i) ≡ Some (steps_of_first run c.region (suc i))
      start_is =
          (let e : suc i ≡ i + 1 = omega arith in ap (start run c.region) e) ∙ start_then
          ∙ ap (moved made) (heads.start_there c.region rest (rest_of_run m) events q.first q.inner piece on off m.config begins.0 begins.1 at)
          ∙ ap Some (sym (size is_next))

      pub onward : HoldsCommitted first (state (suc i))
      onward = held_by is_next (sym (ap (λ (k : Option ℕ). memory_from run k (start run c.region (suc i - 1))) start_is ∙ cells_there is_next)) (rw at start_is)

    -- or the region was left
    module _ (closed : closes events ≡ true) (last : last_events events ≡ events)
        (once : is_closing run c.region i ≡ true → start run c.region (i + 1) ≡ None) where
      closing_here : is_closing run c.region i ≡ true
      closing_here = ap closes iteration_same ∙ heads.closing_is c.region rest (rest_of_run m) events q.first q.inner piece on off closed last

      none : start run c.region (suc i) ≡ None
      none = (let e : suc i ≡ i + 1 = omega arith in ap (start run c.region) e) ∙ once closing_here

      unmoved : (k : Option ℕ) → moved made k ≡ None → k ≡ None
      unmoved None e = refl
      unmoved (Some k) e = absurd (cc)

      none_there : start rest c.region 1 ≡ None
      none_there = unmoved (start rest c.region 1) (sym start_then ∙ once closing_here)

      is_last : iteration rest c.region 0 ≡ events
      is_last = heads.last_is c.region rest (rest_of_run m) events q.first q.inner piece on off closed last none_there

      off_there : stands_at_head c.region m.config ≡ false
      off_there = heads.left_is c.region rest (rest_of_run m) events q.first q.inner piece on off closed last m.config begins.0 begins.1 none_there

      stop_is : stop_from run made None ≡ steps_of_first run c.region (suc i)
      stop_is =
          ap (λ (es : List Event). made + length (last_events (drop made es))) (h.piece.trace
          ∙ ap (λ (es : List Event). events_of_first run c.region i ++ es) went.run.trace)
          ∙ ap (λ (es : List Event). made + length (last_events es)) (drop-append_seam (events_of_first run c.region i) (events ++ (rest_of_run m).trace))
          ∙ ap (λ (es : List Event). made + length es) (last_front events (rest_of_run m).trace closed ∙ last) ∙ sym (size is_last)

      memory_is : memory_after run c.region (suc i) ≡ m.config.cells
      memory_is =
          ap (λ (k : Option ℕ). memory_from run k (start run c.region (suc i - 1))) none
          ∙ ap (memory_from run None) ((let e : suc i - 1 ≡ i = omega arith in ap (start run c.region) e) ∙ started first c h o)
          ∙ ap (cells_after run) stop_is ∙ cells_there is_last

      pub left : HoldsCommitted first (state (suc i))
      left = held_by is_last (sym memory_is) (rw off_there none)

  counts_on : suc i ≡ i + 1
  counts_on = omega arith

  -- what the call's configurations are
  call_heads : (configs : List Config) → 0 < length configs → HeadsOnce c.region c.machine.current configs → Headed c.region configs
  call_heads configs some once = headed c.region configs some (subst (λ (u : Option ℕ). HeadsOnce c.region u configs) o.between once)

  -- the next iteration's events are those of the region's own run
  pub record Made (events : List Event) : Type 0 where
    pub iteration_is : iteration run c.region i ≡ events
    pub held : HoldsCommitted first (state (c.count + 1))

  module _ (turns : ℕ) (before after : List ℤ) where
    pub held_next : (call : IterationRun c.region turns c.machine m before after Next) → Made call.events
    held_next call =
        let some = call.stops.some o.between in
        let q = call_heads call.configs (omega (arith, some, call.moved.run.paired)) call.heads in
        record {
          iteration_is = iteration_same ∙ is_next before after call.events call.configs call.moved q call.stops.head;
          held = subst (λ (n : ℕ). HoldsCommitted first (state n)) counts_on (onward before after call.events call.configs call.moved q call.stops.head);
        }

    pub held_closed : (is_closing run c.region i ≡ true → start run c.region (i + 1) ≡ None) →
        (call : IterationRun c.region turns c.machine m before after Closed) → Made call.events
    held_closed once call =
        let closed : closes call.events ≡ true = ap (λ (u : Option ℕ). has_closed u call.events) (sym o.between) ∙ call.stops.closed in
        let last : last_events call.events ≡ call.events = ap (λ (u : Option ℕ). upto_closing u call.events) (sym o.between) ∙ call.stops.last in
        let some = some_events call.events closed in
        let q = call_heads call.configs (omega (arith, some, call.moved.run.paired)) call.heads in
        record {
          iteration_is = iteration_same ∙ is_last before after call.events call.configs call.moved q closed last once;
          held = subst (λ (n : ℕ). HoldsCommitted first (state n)) counts_on (left before after call.events call.configs call.moved q closed last once);
        }
