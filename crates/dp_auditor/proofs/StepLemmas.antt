-- One turn of the comparison of a region's iterations.
use Rattle.std.proofs.Common.{◌≡◌, ◌≢◌, refl, sym, ap, ◌∙◌, subst, arith, ℕ, suc, ◌+◌, ◌<◌, Bool, true, false, List, [], ◌++◌, append_assoc, ℤ, length, Option}
use Rattle.std.proofs.Common.{Some, None, is_some}
use Rattle.dp_base.specs.declared.End.{End}
use Rattle.dp_base.specs.declared.End.TheVariants as how
use Rattle.dp_tree.specs.declared.Program.{Program}
use Rattle.dp_tree.specs.Step.{Event, clear_locals}
use Rattle.dp_tree.specs.Trace.{ended, prints}
use Rattle.dp_tree.specs.Iteration.{begun_count, closes, last_events, start}
use Rattle.dp_plan.specs.declared.Plan.{Plan}
use Rattle.dp_meaning.specs.declared.ends.IterEnd.{IterEnd}
use Rattle.dp_meaning.specs.declared.ends.IterEnd.TheVariants.{Next, Closed, Fault, Fuel, Going}
use Rattle.dp_meaning.specs.IterationRun.{IterationGoesOn, IterationRun}
use Rattle.dp_meaning.specs.MachineState.{MachineState, fuel_left, rest_of_run}
use Rattle.dp_log.specs.LogText.{group_bytes, iteration_bytes, iterations_bytes}
use Rattle.dp_view.specs.Changed.{Cleared}
use Rattle.dp_view.specs.Viewed.{Viewed, settled}
use Rattle.dp_auditor.specs.Comparing.{Compared, Compares, Fails, PassesPiece}
use Rattle.dp_auditor.specs.Ending.{begun_next, last_of, unless_differs}
use Rattle.dp_auditor.specs.Gathered.{sets_between}
use Rattle.dp_view.specs.Heard.{Comes, WereMade}
use Rattle.dp_auditor.specs.Regions.{AtRegion}
use Rattle.dp_auditor.specs.Walking.{IterationsCompared}
use Rattle.dp_auditor.specs.declared.iterations.After.TheVariants as after
use Rattle.dp_auditor.proofs.IterationLemmas.{before_cleared, comes, events_are, goes_here, reached_next, text_is}
use Rattle.dp_auditor.proofs.LastLemmas as last
use Rattle.dp_auditor.proofs.PieceLemmas.{fails_behind}
use Rattle.dp_auditor.proofs.ReachedLemmas.{Reached}
use Rattle.dp_auditor.proofs.RegionLemmas.{begun_here}
use Rattle.dp_auditor.proofs.SetLemmas.{lines_first}

module _ (p : Program) (plan : Plan) (first ahead behind : MachineState) (v : Viewed) (old now : Compared) (i : ℕ) (at : AtRegion p plan first)
    (h : Reached p plan first ahead behind v old now i) where
  module _ (beyond other : MachineState) (before printed : List ℤ) (clear : before ≡ []) (until : ℕ) (until_is : until ≡ beyond.steps) (w : Viewed)
      (follows : (events later : List Event) → Comes behind until v.source events later → WereMade other until v w events later) where
    -- ---- another iteration follows

    module _ (call : IterationRun plan.region 4294967295 ahead beyond before printed Next) where
      went : WereMade other until v w call.events (rest_of_run beyond).trace
      went =
          follows call.events (rest_of_run beyond).trace
          (subst (λ (n : ℕ). Comes behind n v.source call.events (rest_of_run beyond).trace) (sym until_is)
          (comes p plan first ahead behind v old now i at h beyond before printed Next call (events_are p plan first ahead behind v old now i at h beyond before
          printed Next call call.stops)))

      printed_is : printed ≡ prints call.events
      printed_is = call.moved.prints ∙ ap (λ (xs : List ℤ). xs ++ prints call.events) clear

      pub cleared : Cleared w.program w.plan w.before
      cleared = before_cleared p plan first ahead behind v old now i at h beyond before printed Next call call.stops w went.kept

      pub reached : (x : Viewed) (new : Compared) → x ≡ begun_next (is_some w.found) (settled w) →
          PassesPiece now new (group_bytes i (is_some w.found) (sets_between w.before (settled w).source) printed) →
          Reached p plan first beyond other x old new (i + 1)
      reached x new is passes =
          reached_next p plan first ahead behind v old now i at h beyond before printed Next call call.stops w went.kept other x new printed printed_is
          went.trace (went.steps ∙ until_is) is passes

      pub differs : (new : Compared) (line : ℕ) → 0 < fuel_left ahead →
          ((later : List ℕ) → Fails now (group_bytes i (is_some w.found) (sets_between w.before (settled w).source) printed ++ later) line) →
          IterationsCompared p plan first beyond old new (after.Differs line)
      differs new line left fails later =
          let run = rest_of_run first in
          let begun = begun_here ahead plan.region h.at.head left in
          let all = (goes_here p plan first ahead behind v old now i at h).begun_in_all in
          let count : begun_count run plan.region ≡ i + suc begun.0 = omega (arith, all, begun.1) in
          let one = iteration_bytes p plan run i in
          let rest = iterations_bytes p plan run (i + 1) begun.0 in
          let text = text_is p plan first ahead behind v old now i at h beyond before printed Next call call.stops w went.kept printed printed_is in
          subst (λ (xs : List ℕ). Fails old xs line)
          (ap (λ (xs : List ℕ). iterations_bytes p plan run 0 i ++ (xs ++ (rest ++ later))) text ∙ ap (λ (xs : List ℕ). iterations_bytes p plan run 0 i ++ xs)
          (sym (append_assoc one rest later))
          ∙ sym (append_assoc (iterations_bytes p plan run 0 i) (one ++ rest) later)
          ∙ ap (λ (xs : List ℕ). xs ++ later) (sym (ap (iterations_bytes p plan run 0) count ∙ lines_first p plan run i begun.0)))
          (fails_behind old now (iterations_bytes p plan run 0 i) (group_bytes i (is_some w.found) (sets_between w.before (settled w).source) printed
          ++ (rest ++ later)) line h.lines (fails (rest ++ later)))

    -- ---- none follows it

    module _ (few : ahead.steps < ahead.fuel) (new : Compared) (line : Option ℕ) where
      abbrev Told : IterEnd → Type 0
      Told end = Compares now new (group_bytes i (last_of end w.found).1 (sets_between w.before (clear_locals plan.region p.vars beyond.config.cells)) printed)
          line →
          IterationsCompared p plan first beyond old new (unless_differs line (last_of end w.found).0)

      told_closed : IterationRun plan.region 4294967295 ahead beyond before printed Closed → Told Closed
      told_closed call told = by line told
        where
          none : start (rest_of_run first) plan.region (suc i) ≡ None
          none = last.none_closed p plan first ahead behind v old now i at h beyond before printed Closed call call.stops

          stop : last_events (call.events ++ (rest_of_run beyond).trace) ≡ call.events
          stop = last.last_closed p plan first ahead behind v old now i at h beyond before printed Closed call call.stops

          closed : closes call.events ≡ true
          closed = last.closed_is p plan first ahead behind v old now i at h beyond before printed Closed call call.stops

          over : closes call.events ≡ false → (rest_of_run beyond).trace ≡ []
          over e = let clash : true ≡ false = sym closed ∙ e in absurd (cc clash)

          heard : WereMade other until v w call.events (rest_of_run beyond).trace
          heard = follows call.events (rest_of_run beyond).trace
              (subst (λ (n : ℕ). Comes behind n v.source call.events (rest_of_run beyond).trace) (sym until_is)
              (comes p plan first ahead behind v old now i at h beyond before printed Closed call (last.events_last p plan first ahead behind v old now i at h
              beyond before printed Closed call none stop)))

          said : printed ≡ prints call.events
          said = call.moved.prints ∙ ap (λ (xs : List ℤ). xs ++ prints call.events) clear

          count : begun_count (rest_of_run first) plan.region ≡ i + 1
          count = last.count_closed p plan first ahead behind v old now i at h beyond before printed Closed call call.stops

          by : (o : Option ℕ) → Compares now new (group_bytes i (is_some w.found) (sets_between w.before (clear_locals plan.region p.vars beyond.config.cells))
              printed) o → IterationsCompared p plan first beyond old new (unless_differs o after.Left)
          by None passes = (
            last.passes_last p plan first ahead behind v old now i at h beyond before printed Closed call none stop over w heard.kept count new printed said
                (subst (λ (b : Bool). PassesPiece now new
                (group_bytes i (last.again_by b w.found) (sets_between w.before (clear_locals plan.region p.vars beyond.config.cells)) printed))
                (sym closed) passes),
            last.left_is p plan first ahead behind v old now i at h beyond before printed Closed call none stop over w heard.kept count ∙ closed,
            last.leaves_closed p plan first ahead behind v old now i at h beyond before printed Closed call call.stops,
          )
          by (Some n) fails =
              last.fails_last p plan first ahead behind v old now i at h beyond before printed Closed call none stop over w heard.kept count new printed said n
              (subst (λ (b : Bool). (later : List ℕ) →
              Fails now (group_bytes i (last.again_by b w.found) (sets_between w.before (clear_locals plan.region p.vars beyond.config.cells)) printed ++ later)
              n) (sym closed) fails)

      told_open : (end : IterEnd) (call : IterationRun plan.region 4294967295 ahead beyond before printed end)
          (g : IterationGoesOn plan.region ahead beyond call.events) (n : ℕ) (why : End) → rest_of_run beyond ≡ ended n beyond.config why →
          (length call.events ≡ 0 → 0 < n) →
          Compares now new (group_bytes i true (sets_between w.before (clear_locals plan.region p.vars beyond.config.cells)) printed) line →
          IterationsCompared p plan first beyond old new (unless_differs line (after.Ends why))
      told_open end call g n why ends begun told = by line told
        where
          counts : last.Counts p plan first ahead behind v old now i at h beyond before printed end call g n why ends begun
          counts = last.counts p plan first ahead behind v old now i at h beyond before printed end call g n why ends begun

          stop : last_events (call.events ++ (rest_of_run beyond).trace) ≡ call.events
          stop = last.last_broken p plan first ahead behind v old now i at h beyond before printed end call g n why ends begun

          broken : closes call.events ≡ false
          broken = last.open_is p plan first ahead behind v old now i at h beyond before printed end call g n why ends begun

          over : closes call.events ≡ false → (rest_of_run beyond).trace ≡ []
          over e = last.trace_none p plan first ahead behind v old now i at h beyond before printed end call g n why ends begun

          heard : WereMade other until v w call.events (rest_of_run beyond).trace
          heard = follows call.events (rest_of_run beyond).trace
              (subst (λ (m : ℕ). Comes behind m v.source call.events (rest_of_run beyond).trace) (sym until_is)
              (comes p plan first ahead behind v old now i at h beyond before printed end call (last.events_last p plan first ahead behind v old now i at h
              beyond before printed end call counts.none stop)))

          said : printed ≡ prints call.events
          said = call.moved.prints ∙ ap (λ (xs : List ℤ). xs ++ prints call.events) clear

          by : (o : Option ℕ) → Compares now new (group_bytes i true (sets_between w.before (clear_locals plan.region p.vars beyond.config.cells)) printed) o →
              IterationsCompared p plan first beyond old new (unless_differs o (after.Ends why))
          by None passes = (
            last.passes_last p plan first ahead behind v old now i at h beyond before printed end call counts.none stop over w heard.kept
                counts.count new printed said
                (subst (λ (b : Bool). PassesPiece now new
                (group_bytes i (last.again_by b w.found) (sets_between w.before (clear_locals plan.region p.vars beyond.config.cells)) printed))
                (sym broken) passes),
            last.left_is p plan first ahead behind v old now i at h beyond before printed end call counts.none stop over w heard.kept counts.count ∙ broken,
            last.only_begins p plan first ahead behind v old now i at h beyond before printed end call g n why ends begun,
            last.end_is p plan first ahead behind v old now i at h beyond before printed end call g n why ends begun,
          )
          by (Some m) fails =
              last.fails_last p plan first ahead behind v old now i at h beyond before printed end call counts.none stop over w heard.kept
              counts.count new printed said m
              (subst (λ (b : Bool). (later : List ℕ) →
              Fails now (group_bytes i (last.again_by b w.found) (sets_between w.before (clear_locals plan.region p.vars beyond.config.cells)) printed ++ later)
              m) (sym broken) fails)

      -- What comes behind the last iteration.
      pub told : (end : IterEnd) → end ≢ Next → IterationRun plan.region 4294967295 ahead beyond before printed end → Told end
      told Next off call = absurd (off refl)
      told Closed off call = told_closed call
      told (Fault fault) off call =
          let m = call.stops.2 in
          let less = m.within in
          told_open (Fault fault) call call.stops.0 (fuel_left beyond) (how.Fault fault) m.ends (λ none. omega (arith, less))
      told Fuel off call =
          let m = call.stops.1 in
          let spent = m.spent in let steps = call.moved.steps in let fuel = call.moved.fuel in
          told_open Fuel call call.stops.0 0 how.Fuel m.ends (λ none. absurd (omega (arith, none, spent, steps, fuel, few)))
      told Going off call =
          let small = h.at.few in let steps = call.moved.steps in let fuel = call.moved.fuel in let less = call.stops.1 in let many = call.stops.2 in
          absurd (omega (arith, small, steps, fuel, less, many))
