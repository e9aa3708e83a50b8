-- An iteration that no other one follows: the region is left in it, or the run ends.
use Rattle.std.proofs.Common.{◌≡◌, refl, sym, ap, ap₂, ◌∙◌, subst, arith, ne_eqb, lt-ltb, eq-eqb, ℕ, suc, ◌+◌, ◌-◌, ◌<◌, ◌&&◌, ◌||◌, ◌⊎◌, inl, inr, Bool, true}
use Rattle.std.proofs.Common.{false, not, cond, nat_lt, count_by, if◌then◌else◌, List, [], ◌∷◌, ◌++◌, append-nil, append_assoc, length-append, ℤ, length, drop}
use Rattle.std.proofs.Common.{slice_range, slice_get, Option, Some, None, is_some, is_none}
use Rattle.std.proofs.lemmas.List.Elements.{All-weaker}
use Rattle.std.proofs.Math.Seq.{drop-append_seam}
use Rattle.dp_base.specs.declared.Cause.{Cause}
use Rattle.dp_base.specs.declared.End.{End}
use Rattle.dp_tree.specs.declared.Stmt.{Stmt}
use Rattle.dp_tree.specs.declared.Program.{Program}
use Rattle.dp_tree.specs.Step.{Config, Event, clear_locals}
use Rattle.dp_tree.specs.Trace.{Run, ended, prints, run_of}
use Rattle.dp_tree.specs.Iteration.{begins_with, begun_count, cells_after, cells_in, closes, events_from, has_ended, is_closing, is_region, iteration}
use Rattle.dp_tree.specs.Iteration.{last_events, memory_after, memory_from, places, stands_at_head, start, starts, stop_from}
use Rattle.dp_tree.specs.GoesOn.{GoesOnAs, moved}
use Rattle.dp_plan.specs.declared.Plan.{Plan}
use Rattle.dp_semantics.specs.Recovery.{is_recovered}
use Rattle.dp_meaning.specs.declared.ends.Part.TheVariants as part
use Rattle.dp_meaning.specs.declared.ends.IterEnd.{IterEnd}
use Rattle.dp_meaning.specs.IterationRun.{AwaitsCondition, IterationGoesOn, HasClosed, IterationRun, current_after, has_closed, upto_closing}
use Rattle.dp_meaning.specs.MachineState.{MachineState, fuel_left, part_of, rest_of_run}
use Rattle.dp_meaning.proofs.NextLemmas.{head_is, last_front, last_open, on_region, part_is}
use Rattle.dp_meaning.proofs.QuietLemmas.{never_again}
use Rattle.dp_log.specs.Changes.{changes_between, memory_behind}
use Rattle.dp_log.specs.LogText.{group_bytes, iteration_bytes, iterations_bytes, was_left}
use Rattle.dp_view.specs.Viewed.{Viewed, after_all}
use Rattle.dp_auditor.specs.Comparing.{Compared, Fails, PassesPiece}
use Rattle.dp_auditor.specs.Gathered.{sets_between}
use Rattle.dp_auditor.specs.Regions.{AtRegion, SameRun}
use Rattle.dp_auditor.specs.Walking.{IsInside, IterationsCompared, LeavesRegion, OnlyBegins}
use Rattle.dp_auditor.specs.declared.iterations.After.TheVariants as what
use Rattle.dp_auditor.proofs.HeadLemmas.{config_there, goes_so, no_place, stands_there}
use Rattle.dp_auditor.proofs.IterationLemmas.{again_is, clean_before, from_head, heads_all, inside_all, piece_all, slice_mid, some_not, start_here, told_here}
use Rattle.dp_auditor.proofs.IterationLemmas.{trace_all}
use Rattle.dp_auditor.proofs.PieceLemmas.{fails_behind, passes_join}
use Rattle.dp_auditor.proofs.PlainLemmas.{same_run}
use Rattle.dp_auditor.proofs.ReachedLemmas.{Reached}
use Rattle.dp_auditor.proofs.RegionLemmas.{ok, to_do_is}
use Rattle.dp_auditor.proofs.SetLemmas.{changes_are, lines_join}
use Rattle.dp_auditor.proofs.TextLemmas.{over_silent}

-- whether an iteration that ended so is executed again
abbrev pub again_by : Bool → Option Cause → Bool
again_by closed found = if closed then is_some found else true

module _ (p : Program) (plan : Plan) (first ahead behind : MachineState) (v : Viewed) (old now : Compared) (i : ℕ) (at : AtRegion p plan first)
    (h : Reached p plan first ahead behind v old now i) where
  module _ (beyond : MachineState) (before after : List ℤ) (how : IterEnd) (call : IterationRun plan.region 4294967295 ahead beyond before after how) where
    abbrev run : Run
    run = rest_of_run first

    abbrev r : ℕ
    r = plan.region

    abbrev k : ℕ
    k = length h.events

    all_same : SameRun first beyond
    all_same = same_run first ahead beyond h.same (record { program_is = call.moved.program; input_is = call.moved.input; fuel_is = call.moved.fuel })

    goes_all : (q : ℕ) → GoesOnAs q (length (places (stands_at_head q) 0 (h.configs ++ call.configs))) (length (h.events ++ call.events)) (rest_of_run first)
        (rest_of_run beyond)
    goes_all q = goes_so first beyond all_same (h.events ++ call.events) (h.configs ++ call.configs)
        (piece_all p plan first ahead behind v old now i at h beyond before after how call) q

    module _ (none : start (rest_of_run first) plan.region (suc i) ≡ None) (last : last_events (call.events ++ (rest_of_run beyond).trace) ≡ call.events) where
      stop_is : stop_from (rest_of_run first) (length h.events) None ≡ length h.events + length call.events
      stop_is =
          ap (λ (es : List Event). k + length (last_events (drop k es))) (trace_all p plan first ahead behind v old now i at h beyond before after how call)
          ∙ ap (λ (es : List Event). k + length (last_events es)) (drop-append_seam h.events (call.events ++ (rest_of_run beyond).trace))
          ∙ ap (λ (es : List Event). k + length es) last

      pub events_last : iteration (rest_of_run first) plan.region i ≡ call.events
      events_last =
          ap₂ (events_from run) (start_here p plan first ahead behind v old now i at h) none ∙ ap (slice_range run.trace k) stop_is
          ∙ ap (λ (es : List Event). slice_range es k (k + length call.events)) (trace_all p plan first ahead behind v old now i at h beyond
          before after how call)
          ∙ slice_mid h.events call.events (rest_of_run beyond).trace k (k + length call.events) refl refl

      closing_is : is_closing (rest_of_run first) plan.region i ≡ closes call.events
      closing_is = ap closes events_last

      ended_is : has_ended (rest_of_run first) plan.region i ≡ closes call.events
      ended_is = ap (λ (o : Option ℕ). is_some o || is_closing run r i) none ∙ closing_is

      cells_there : cells_after (rest_of_run first) (length h.events + length call.events) ≡ beyond.config.cells
      cells_there =
          ap (cells_after run) (sym (length-append h.events call.events))
          ∙ ap cells_in (config_there first beyond all_same (h.events ++ call.events) (h.configs ++ call.configs)
          (piece_all p plan first ahead behind v old now i at h beyond before after how call))

      memory_closed : memory_after (rest_of_run first) plan.region (suc i) ≡ beyond.config.cells
      memory_closed =
          let back : suc i - 1 ≡ i = omega arith in
          ap₂ (memory_from run) none (ap (start run r) back ∙ start_here p plan first ahead behind v old now i at h)
          ∙ ap (cells_after run) stop_is ∙ cells_there

      -- the memory behind it
      module _ (over : closes call.events ≡ false → (rest_of_run beyond).trace ≡ []) where
        memory_is : memory_behind (rest_of_run first) plan.region i ≡ beyond.config.cells
        memory_is = ap (λ (b : Bool). if b then memory_after run r (suc i) else cells_after run (length run.trace)) ended_is ∙ by (closes call.events) refl
          where
            by : (b : Bool) → closes call.events ≡ b → (if b then memory_after (rest_of_run first) plan.region (suc i) else cells_after (rest_of_run first)
                (length (rest_of_run first).trace)) ≡ beyond.config.cells
            by true e = memory_closed
            by false e =
                let trace = ap length (trace_all p plan first ahead behind v old now i at h beyond before after how call) in
                let size : length (rest_of_run first).trace ≡ length h.events + length call.events =
                trace ∙ length-append h.events (call.events ++ (rest_of_run beyond).trace)
                ∙ ap (λ (es : List Event). length h.events + length (call.events ++ es)) (over e)
                ∙ ap (λ (es : List Event). length h.events + length es) (append-nil call.events) in
                ap (cells_after (rest_of_run first)) size ∙ cells_there

        module _ (w : Viewed) (kept : w ≡ after_all call.events v) where
          w_is : after_all (iteration (rest_of_run first) plan.region i) v ≡ w
          w_is = ap (λ (es : List Event). after_all es v) events_last ∙ sym kept

          before_is : w.before ≡ memory_after (rest_of_run first) plan.region i
          before_is = ap (λ (x : Viewed). x.before) (sym w_is) ∙ (told_here p plan first ahead behind v old now i at h).before

          again_last : again_by (closes call.events) w.found ≡ is_recovered p plan (rest_of_run first) i
          again_last =
              sym (again_is p plan first ahead behind v old now i at h ∙ ap₂ (λ (b : Bool) (x : Viewed). not (b && is_none x.found)) ended_is w_is
              ∙ by (closes call.events))
            where
              by : (b : Bool) → not (b && is_none w.found) ≡ again_by b w.found
              by true = some_not w.found
              by false = refl

          pub text_last : (printed : List ℤ) → printed ≡ prints call.events →
              group_bytes i (again_by (closes call.events) w.found) (sets_between w.before (clear_locals plan.region p.vars beyond.config.cells)) printed
              ≡ iteration_bytes p plan (rest_of_run first) i
          text_last printed e = λ j. group_bytes i (again_last j) (sets j) ((e ∙ ap prints (sym events_last)) j)
            where
              sets : sets_between w.before (clear_locals plan.region p.vars beyond.config.cells) ≡ changes_between p plan
                  (memory_after (rest_of_run first) plan.region i) (memory_behind (rest_of_run first) plan.region i)
              sets =
                  ap (λ (cells : List ℤ). sets_between cells (clear_locals plan.region p.vars beyond.config.cells)) before_is
                  ∙ changes_are p plan (memory_after (rest_of_run first) plan.region i) beyond.config.cells
                  (clean_before p plan first ahead behind v old now i at h)
                  ∙ ap (changes_between p plan (memory_after (rest_of_run first) plan.region i)) (sym memory_is)

          module _ (count : begun_count (rest_of_run first) plan.region ≡ i + 1) where
            lines_all : iterations_bytes p plan (rest_of_run first) 0 (begun_count (rest_of_run first) plan.region) ≡ iterations_bytes p plan
                (rest_of_run first) 0 i ++ iteration_bytes p plan (rest_of_run first) i
            lines_all =
                ap (iterations_bytes p plan run 0) count ∙ lines_join p plan run i 1
                ∙ ap (λ (xs : List ℕ). iterations_bytes p plan run 0 i ++ xs) (append-nil (iteration_bytes p plan run i))

            pub left_is : was_left (rest_of_run first) plan.region ≡ closes call.events
            left_is = let back : i + 1 - 1 ≡ i = omega arith in ap (λ (n : ℕ). is_closing run r (n - 1)) count ∙ ap (is_closing run r) back ∙ closing_is

            module _ (new : Compared) (printed : List ℤ) (e : printed ≡ prints call.events) where
              abbrev text : List ℕ
              text = group_bytes i (again_by (closes call.events) w.found) (sets_between w.before (clear_locals plan.region p.vars beyond.config.cells)) printed

              pub passes_last : PassesPiece now new (group_bytes i (again_by (closes call.events) w.found)
                  (sets_between w.before (clear_locals plan.region p.vars beyond.config.cells)) printed) →
                  PassesPiece old new (iterations_bytes p plan (rest_of_run first) 0 (begun_count (rest_of_run first) plan.region))
              passes_last passes =
                  subst (PassesPiece old new) (sym lines_all) (passes_join old now new (iterations_bytes p plan run 0 i) (iteration_bytes p plan run i) h.lines
                  (subst (PassesPiece now new) (text_last printed e) passes))

              pub fails_last : (line : ℕ) →
                  ((later : List ℕ) → Fails now (group_bytes i (again_by (closes call.events) w.found)
                  (sets_between w.before (clear_locals plan.region p.vars beyond.config.cells)) printed ++ later) line) →
                  IterationsCompared p plan first beyond old new (what.Differs line)
              fails_last line fails later =
                  subst (λ (xs : List ℕ). Fails old xs line)
                  (ap (λ (xs : List ℕ). iterations_bytes p plan run 0 i ++ (xs ++ later)) (text_last printed e)
                  ∙ sym (append_assoc (iterations_bytes p plan run 0 i) (iteration_bytes p plan run i) later)
                  ∙ ap (λ (xs : List ℕ). xs ++ later) (sym lines_all))
                  (fails_behind old now (iterations_bytes p plan run 0 i) (text ++ later) line h.lines (fails later))

    -- ---- the region was left

    module _ (s : HasClosed ahead beyond call.events) where
      pub closed_is : closes call.events ≡ true
      closed_is = ap (λ (o : Option ℕ). has_closed o call.events) (sym h.at.between) ∙ s.closed

      last_is : last_events call.events ≡ call.events
      last_is = ap (λ (o : Option ℕ). upto_closing o call.events) (sym h.at.between) ∙ s.last

      some_events : (es : List Event) → closes es ≡ true → 0 < length es
      some_events [] e = absurd (cc e)
      some_events (x ∷ es) e = omega arith

      pub last_closed : last_events (call.events ++ (rest_of_run beyond).trace) ≡ call.events
      last_closed = last_front call.events (rest_of_run beyond).trace closed_is ∙ last_is

      -- what is left stands behind the region
      rest_is : beyond.config.to_do ≡ drop 1 first.config.to_do
      rest_is = s.rest ∙ ap (drop 1) (from_head plan.region ahead.config.to_do h.at.head ∙ h.rest)

      none_then : starts (rest_of_run beyond) plan.region ≡ []
      none_then =
          let o = ok p plan first at in
          ap (λ (x : Program). starts (run_of x beyond.input (fuel_left beyond) beyond.config) plan.region) (call.moved.program ∙ h.at.program_is)
          ∙ never_again p at.inlined plan.region o.split.front o.statement o.split.tail o.split.main_is (ap (is_region plan.region) o.part.is
          ∙ eq-eqb plan.region plan.region refl) beyond.input (fuel_left beyond) beyond.config
          (rest_is ∙ ap (drop 1) (to_do_is p plan first at)) 0

      heads_here : length (places (stands_at_head plan.region) 0 (h.configs ++ call.configs)) ≡ i + 1
      heads_here = heads_all p plan first ahead behind v old now i at h beyond before after how call (some_events call.events closed_is)

      goes_closed : GoesOnAs plan.region (i + 1) (length (h.events ++ call.events)) (rest_of_run first) (rest_of_run beyond)
      goes_closed = subst (λ (n : ℕ). GoesOnAs plan.region n (length (h.events ++ call.events)) (rest_of_run first) (rest_of_run beyond)) heads_here
          (goes_all plan.region)

      pub none_closed : start (rest_of_run first) plan.region (suc i) ≡ None
      none_closed =
          let this : suc i ≡ i + 1 + 0 = omega arith in
          ap (start run r) this ∙ goes_closed.started 0 ∙ ap (λ (ns : List ℕ). moved (length (h.events ++ call.events)) (slice_get ns 0)) none_then

      pub count_closed : begun_count (rest_of_run first) plan.region ≡ i + 1
      count_closed =
          let none : begun_count (rest_of_run beyond) plan.region ≡ 0 = ap (count_by (λ (n : ℕ). nat_lt n (rest_of_run beyond).fuel)) none_then in
          let all = goes_closed.begun_in_all in omega (arith, all, none)

      pub leaves_closed : LeavesRegion p plan.region first beyond
      leaves_closed = record {
        events = h.events ++ call.events;
        configs = h.configs ++ call.configs;
        piece = piece_all p plan first ahead behind v old now i at h beyond before after how call;
        inside = inside_all p plan first ahead behind v old now i at h beyond before after how call;
        same = all_same;
        stands = stands_there first beyond all_same (h.events ++ call.events) (h.configs ++ call.configs)
            (piece_all p plan first ahead behind v old now i at h beyond before after how call) p at.inlined at.program_is at.stands;
        between = s.current;
        rest = rest_is;
      }

    -- ---- the run ends in it

    module _ (g : IterationGoesOn plan.region ahead beyond call.events) (n : ℕ) (why : End) (ends : rest_of_run beyond ≡ ended n beyond.config why)
        (begun : length call.events ≡ 0 → 0 < n) where
      pub open_is : closes call.events ≡ false
      open_is = ap (λ (o : Option ℕ). has_closed o call.events) (sym h.at.between) ∙ g.not_closed

      pub trace_none : (rest_of_run beyond).trace ≡ []
      trace_none = ap (λ (u : Run). u.trace) ends

      pub last_broken : last_events (call.events ++ (rest_of_run beyond).trace) ≡ call.events
      last_broken = ap (λ (es : List Event). last_events (call.events ++ es)) trace_none ∙ ap last_events (append-nil call.events)
          ∙ last_open call.events open_is

      current_is : beyond.current ≡ current_after plan.region None call.events
      current_is = g.current ∙ ap (λ (o : Option ℕ). current_after plan.region o call.events) h.at.between

      -- no other region's condition comes next there
      inside_then : (part_of beyond.config.to_do ≡ part.Region plan.region) ⊎ (part_of beyond.config.to_do ≡ part.Plain)
      inside_then = by beyond.current g.awaits
        where
          by : (o : Option ℕ) → AwaitsCondition plan.region o beyond.config → (part_of beyond.config.to_do ≡ part.Region plan.region)
              ⊎ (part_of beyond.config.to_do ≡ part.Plain)
          by None e = inl e
          by (Some q) e = inr e

      starts_then : (b : Bool) → stands_at_head plan.region beyond.config ≡ b → starts (rest_of_run beyond) plan.region ≡ (if b then 0 ∷ [] else [])
      starts_then b e = ap (λ (u : Run). starts u plan.region) ends ∙ ap (λ (c : Bool). if c then 0 ∷ [] else []) e

      -- how many configurations of the region's condition there are, and what is behind them
      pub record Counts : Type 0 where
        pub none : start (rest_of_run first) plan.region (suc i) ≡ None
        pub count : begun_count (rest_of_run first) plan.region ≡ i + 1

      by_events : (es : List Event) → call.events ≡ es → Counts
      by_events (x ∷ es) e =
          let some : 0 < length call.events = omega (arith, ap length e) in
          let plain : part_of beyond.config.to_do ≡ part.Plain =
          subst (λ (o : Option ℕ). AwaitsCondition plan.region o beyond.config) (current_is ∙ ap (current_after plan.region None) e) g.awaits in
          let off : stands_at_head plan.region beyond.config ≡ false = head_is plan.region beyond.config.to_do ∙ ap (part_is plan.region) plain in
          let goes = subst (λ (m : ℕ). GoesOnAs plan.region m (length (h.events ++ call.events)) run (rest_of_run beyond))
          (heads_all p plan first ahead behind v old now i at h beyond before after how call some) (goes_all plan.region) in
          let this : suc i ≡ i + 1 + 0 = omega arith in
          let zero_then : begun_count (rest_of_run beyond) plan.region ≡ 0 = ap (count_by (λ (m : ℕ). nat_lt m (rest_of_run beyond).fuel))
          (starts_then false off) in
          let all = goes.begun_in_all in
          record {
            none = ap (start run plan.region) this ∙ goes.started 0 ∙ ap (λ (ns : List ℕ). moved (length (h.events ++ call.events)) (slice_get ns 0))
                (starts_then false off);
            count = omega (arith, all, zero_then);
          }
      by_events [] e =
          let no_config : length call.configs ≡ 0 = omega (arith, call.moved.run.paired, ap length e) in
          let head : part_of beyond.config.to_do ≡ part.Region plan.region =
          subst (λ (o : Option ℕ). AwaitsCondition plan.region o beyond.config) (current_is ∙ ap (current_after plan.region None) e) g.awaits in
          let on = on_region plan.region beyond.config head in
          let configs : h.configs ++ call.configs ≡ h.configs = ap (λ (cs : List Config). h.configs ++ cs) (nothing call.configs no_config)
          ∙ append-nil h.configs in
          let heads : length (places (stands_at_head plan.region) 0 (h.configs ++ call.configs)) ≡ i = ap
          (λ (cs : List Config). length (places (stands_at_head plan.region) 0 cs)) configs ∙ h.heads in
          let goes = subst (λ (m : ℕ). GoesOnAs plan.region m (length (h.events ++ call.events)) run (rest_of_run beyond)) heads (goes_all plan.region) in
          let this : suc i ≡ i + 1 = omega arith in
          let fuel : (rest_of_run beyond).fuel ≡ n = ap (λ (u : Run). u.fuel) ends in
          let left : 0 < n = begun (ap length e) in
          let one : begun_count (rest_of_run beyond) plan.region ≡ 1 =
          ap (count_by (λ (m : ℕ). nat_lt m (rest_of_run beyond).fuel)) (starts_then true on)
          ∙ ap (λ (b : Bool). 0 + cond b 1 0) (lt-ltb 0 (rest_of_run beyond).fuel (omega (arith, fuel, left))) in
          let all = goes.begun_in_all in
          record {
            none = ap (start run plan.region) this ∙ goes.started 1 ∙ ap (λ (ns : List ℕ). moved (length (h.events ++ call.events)) (slice_get ns 1))
                (starts_then true on);
            count = omega (arith, all, one);
          }
        where
          nothing : (cs : List Config) → length cs ≡ 0 → cs ≡ []
          nothing [] e = refl
          nothing (c ∷ cs) e = absurd (omega (arith, e))

      pub counts : Counts
      counts = by_events call.events refl

      pub only_begins : OnlyBegins plan.region (rest_of_run first)
      only_begins q other =
          let goes = subst (λ (ns : List ℕ). GoesOnAs q (length ns) (length (h.events ++ call.events)) run (rest_of_run beyond))
          (no_place (stands_at_head q) 0 (h.configs ++ call.configs)
          (All-weaker (IsInside plan.region) (λ c. stands_at_head q c ≡ false) (λ c e. off c.to_do e) (h.configs ++ call.configs)
          (inside_all p plan first ahead behind v old now i at h beyond before after how call))) (goes_all q) in
          goes.begun_in_all ∙ ap (λ (m : ℕ). 0 + m) (ap (λ (u : Run). begun_count u q) ends
          ∙ over_silent n beyond.config why q (off beyond.config.to_do inside_then))
        where
          off : (xs : List Stmt) → (part_of xs ≡ part.Region plan.region) ⊎ (part_of xs ≡ part.Plain) → begins_with q xs ≡ false
          off xs (inl e) = head_is q xs ∙ ap (part_is q) e ∙ ne_eqb plan.region q (λ same. other (sym same))
          off xs (inr e) = head_is q xs ∙ ap (part_is q) e

      pub end_is : (rest_of_run first).end ≡ why
      end_is = (piece_all p plan first ahead behind v old now i at h beyond before after how call).end ∙ ap (λ (u : Run). u.end) ends
