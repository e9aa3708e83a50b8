-- The run ends within an iteration: the memory is that at the trace's end, and no further iteration starts.
use Rattle.std.proofs.Common.{◌≡◌, refl, sym, ap, ◌∙◌, subst, ℕ, ◌+◌, ◌-◌, ◌<◌, Bool, true, false, if◌then◌else◌, List, [], ◌∷◌, ◌++◌, length, length-append}
use Rattle.std.proofs.Common.{drop, Option, Some, None, slice_get, ℤ, arith}
use Rattle.std.proofs.lemmas.List.{append-nil}
use Rattle.std.proofs.Math.Seq.{drop-append_seam}
use Rattle.dp_base.specs.declared.End.{End}
use Rattle.dp_tree.specs.Step.{Config, Event}
use Rattle.dp_tree.specs.Trace.{Run, ended}
use Rattle.dp_tree.specs.Iteration.{stands_at_head, places, start, stop_from, last_events, closes, cells_in, cells_after, memory_from, memory_after}
use Rattle.dp_tree.specs.IterationLaws.{events_of_first}
use Rattle.dp_tree.specs.GoesOn.{moved}
use Rattle.dp_meaning.specs.declared.ends.Part.TheVariants as part
use Rattle.dp_meaning.specs.MachineState.{MachineState, rest_of_run, part_of}
use Rattle.dp_meaning.specs.Continues.{Continues}
use Rattle.dp_meaning.specs.Moved.{Moved}
use Rattle.dp_meaning.specs.IterationRun.{IterationGoesOn, HeadsOnce, AwaitsCondition, has_closed, current_after}
use Rattle.dp_meaning.proofs.NextLemmas.{last_open}
use Rattle.dp_commit.specs.CommittedState.{CommittedState, IsOpen, HoldsCommitted, BrokeOff, region_run, steps_of_first}
use Rattle.dp_commit.proofs.Lists.{get_at_seam}
use Rattle.dp_commit.proofs.Parts.{never_plain, off_plain, on_region}
use Rattle.dp_commit.proofs.Heads as heads
use Rattle.dp_commit.proofs.Going.{goes, started}
use Rattle.dp_commit.proofs.Committing.{headed, join}

module _ (first : MachineState) (c : CommittedState) (h : HoldsCommitted first c) (o : IsOpen c) (m : MachineState) (before after : List ℤ)
    (events : List Event) (configs : List Config)
    (went : Moved c.machine m before after events configs) (heads_once : HeadsOnce c.region c.machine.current configs)
    (stay : IterationGoesOn c.region c.machine m events)
    (fuel : ℕ) (end : End) (ends : rest_of_run m ≡ ended fuel m.config end) where
  abbrev run : Run
  run = region_run first

  abbrev rest : Run
  rest = rest_of_run c.machine

  abbrev made : ℕ
  made = steps_of_first (region_run first) c.region c.count

  one_config : (rest_of_run m).configs ≡ m.config ∷ []
  one_config = ap (λ (x : Run). x.configs) ends

  trace_is : rest.trace ≡ events
  trace_is = went.run.trace ∙ ap (λ (x : Run). events ++ x.trace) ends ∙ append-nil events

  -- what comes next for the machine
  awaits_is : AwaitsCondition c.region (current_after c.region None events) m.config
  awaits_is = subst (λ (u : Option ℕ). AwaitsCondition c.region u m.config) (stay.current
      ∙ ap (λ (u : Option ℕ). current_after c.region u events) o.between) stay.awaits

  none_by : (es : List Event) → events ≡ es → start rest c.region 1 ≡ None
  none_by [] e =
      let size : length configs ≡ 0 = omega (arith, went.run.paired, ap length e) in
      let configs_are : rest.configs ≡ m.config ∷ [] = went.run.configs ∙ ap (λ (cs : List Config). cs ++ (rest_of_run m).configs)
      (no_items configs size) ∙ one_config in
      ap (λ (cs : List Config). slice_get (places (stands_at_head c.region) 0 cs) 1) configs_are ∙ by (stands_at_head c.region m.config)
    where
      no_items : (cs : List Config) → length cs ≡ 0 → cs ≡ []
      no_items [] s = refl
      no_items (x ∷ cs) s = absurd (omega (arith, s))

      by : (t : Bool) → slice_get {X = ℕ} (if t then 0 ∷ [] else []) 1 ≡ None
      by true = refl
      by false = refl
  none_by (x ∷ es) e =
      let some : 0 < length events = omega (arith, ap length e) in
      let q = headed c.region configs (omega (arith, some, went.run.paired)) (subst (λ (u : Option ℕ). HeadsOnce c.region u configs) o.between heads_once) in
      let plain : part_of m.config.to_do ≡ part.Plain = subst (λ (xs : List Event). AwaitsCondition c.region (current_after c.region None xs)
      m.config) e awaits_is in
      heads.start_next c.region rest (rest_of_run m) events q.first q.inner
      (subst (λ (cs : List Config). Continues rest events cs (rest_of_run m)) q.is went.run)
      (on_region c.region q.first q.on) (never_plain c.region q.inner q.plain)
      ∙ ap (λ (cs : List Config). slice_get (places (stands_at_head c.region) (length events) cs) 0) one_config
      ∙ ap (λ (t : Bool). slice_get (if t then length events ∷ [] else []) 0) (off_plain c.region m.config plain)

  last_is : start run c.region (c.count + 1) ≡ None
  last_is = (goes first c h o).started 1 ∙ ap (moved made) (none_by events refl)

  yet_open : closes events ≡ false
  yet_open = ap (λ (u : Option ℕ). has_closed u events) (sym o.between) ∙ stay.not_closed

  stop_is : stop_from run made None ≡ made + length events
  stop_is =
      ap (λ (es : List Event). made + length (last_events (drop made es))) (h.piece.trace
      ∙ ap (λ (es : List Event). events_of_first run c.region c.count ++ es) trace_is)
      ∙ ap (λ (es : List Event). made + length (last_events es)) (drop-append_seam (events_of_first run c.region c.count) events)
      ∙ ap (λ (es : List Event). made + length es) (last_open events yet_open)

  whole : Continues run (events_of_first run c.region c.count ++ events) (h.configs ++ configs) (rest_of_run m)
  whole = join run rest (rest_of_run m) (events_of_first run c.region c.count) events h.configs configs h.piece went.run

  cells_there : cells_after run (made + length events) ≡ m.config.cells
  cells_there =
      let size = length-append (events_of_first run c.region c.count) events in
      let place : made + length events ≡ length (h.configs ++ configs) = omega (arith, size, whole.paired) in
      ap cells_in (ap (λ (cs : List Config). slice_get cs (made + length events)) whole.configs ∙ get_at_seam (h.configs ++ configs) (rest_of_run m).configs
      (made + length events) m.config [] place one_config)

  memory_is : memory_after run c.region (c.count + 1) ≡ m.config.cells
  memory_is =
      ap (λ (k : Option ℕ). memory_from run k (start run c.region (c.count + 1 - 1))) last_is
      ∙ ap (memory_from run None) ((let e : c.count + 1 - 1 ≡ c.count = omega arith in ap (start run c.region) e) ∙ started first c h o)
      ∙ ap (cells_after run) stop_is ∙ cells_there

  pub broke_off : BrokeOff first (record c { machine = m; count = c.count })
  broke_off = record { memory = sym memory_is; last = last_is }
