-- A front of what a region prints up to an iteration, where its run stops early.
use Rattle.std.proofs.Common.{◌≡◌, refl, sym, ap, ◌∙◌, subst, inl, inr, ℕ, zero, suc, ◌-◌, ◌<◌, ◌≤◌, List, [], ◌++◌, ℤ, take, drop, append-nil, Option, Some}
use Rattle.std.proofs.Common.{None, append_assoc, arith}
use Rattle.std.proofs.lemmas.List.{append_cancel_right, take-append-drop}
use Rattle.std.proofs.lemmas.Option.{slice_get_within}
use Rattle.std.proofs.lemmas.Bool.{cases_lt}
use Rattle.dp_tree.specs.declared.Program.{Program}
use Rattle.dp_tree.specs.Step.{Config, Event}
use Rattle.dp_tree.specs.Trace.{Run, prints}
use Rattle.dp_tree.specs.Iteration.{iteration, start, starts, stop_from}
use Rattle.dp_tree.specs.IterationLaws.{AreAdjacent, events_of_first}
use Rattle.dp_tree.proofs.IterationLaws.{iterations_adjoin}
use Rattle.dp_plan.specs.declared.Plan.{Plan}
use Rattle.dp_meaning.specs.Continues.{Continues}
use Rattle.dp_meaning.specs.MachineState.{MachineState, fuel_left, rest_of_run}
use Rattle.dp_meaning.proofs.MovedLemmas.{prints-append}
use Rattle.dp_commit.specs.CommittedState.{region_run, steps_of_first}
use Rattle.dp_epoch.specs.declared.ends.RegionEnd.{RegionEnd}
use Rattle.dp_epoch.proofs.Here.{starts_here}
use Rattle.dp_audit.specs.declared.runner.Runner.{Runner}
use Rattle.dp_audit.specs.Runs.{RegionStands}
use Rattle.dp_crew.specs.Output.{Emits}
use Rattle.dp_crew.proofs.StreamLemmas.{emits_front, front_ahead, front_within}
use Rattle.dp_edge.specs.Writing.{WritesFront}
use Rattle.dp_report.specs.PrintsText.{prints_bytes}
use Rattle.dp_room.proofs.ListLemmas.{at_index}
use Rattle.dp_run.specs.Stretches.{to_come}
use Rattle.dp_run.proofs.Passing.{prints_on}
use Rattle.dp_resume.specs.steps.Reaching.{machine_of, prints_until}
use Rattle.dp_resume.proofs.ReachLemmas.{Reached, begun_prints, old_piece, start_later}

-- ---- a front of the prints up to the iteration

abbrev pub Prefix : List Event → List Event → Type 0
Prefix front all = (more : List Event) × (all ≡ front ++ more)

events_more : (run : Run) (r n m : ℕ) → n ≤ m → Prefix (events_of_first run r n) (events_of_first run r m)
events_more run r n zero le = let none : n ≡ 0 = omega (arith, le) in ([], ap (events_of_first run r) (sym none) ∙ sym (append-nil (events_of_first run r n)))
events_more run r n (suc m) le = elim (cases_lt n (suc m)) [
  | inl less ↦ let q = events_more run r n m (omega (arith, less)) in
      (q.0 ++ iteration run r m, ap (λ (es : List Event). es ++ iteration run r m) q.1 ∙ append_assoc (events_of_first run r n) q.0 (iteration run r m))
  | inr high ↦ let same : suc m ≡ n = omega (arith, le, high) in ([], ap (events_of_first run r) same ∙ sym (append-nil (events_of_first run r n)))
]

module _ (first : MachineState) (r : ℕ) (at_once : start (region_run first) r 0 ≡ Some 0) where
  adjacent : AreAdjacent (region_run first) r
  adjacent = iterations_adjoin first.program first.input (fuel_left first) first.config r

  -- those of an iteration that starts, and those before, begin the trace
  events_taken : (i k : ℕ) → start (region_run first) r i ≡ Some k → events_of_first (region_run first) r (suc i) ≡ take
      (stop_from (region_run first) k (start (region_run first) r (suc i))) (region_run first).trace
  events_taken i k e =
      let stop = stop_from (region_run first) k (start (region_run first) r (suc i)) in let size : stop - 0 ≡ stop = omega arith in
      adjacent.joined 0 i k at_once e ∙ ap (λ (m : ℕ). take m (region_run first).trace) size

  start_before : (i k : ℕ) → start (region_run first) r (suc i) ≡ Some k → (j : ℕ) × (start (region_run first) r i ≡ Some j)
  start_before i k e = let high = slice_get_within (starts (region_run first) r) (suc i) k e in at_index (starts (region_run first) r) i (omega (arith, high))

  -- up to where an iteration starts
  events_until : (m k : ℕ) → start (region_run first) r m ≡ Some k → take k (region_run first).trace ≡ events_of_first (region_run first) r m
  events_until zero k e = let none : k ≡ 0 = cc (sym at_once ∙ e) in ap (λ (j : ℕ). take j (region_run first).trace) none
  events_until (suc i) k e =
      let q = start_before i k e in
      sym (events_taken i q.0 q.1 ∙ ap (λ (o : Option ℕ). take (stop_from (region_run first) q.0 o) (region_run first).trace) e)

  -- the first iterations, of which the last starts, print a front of what is printed up to a later one
  front_until : (made after k : ℕ) → start (region_run first) r made ≡ Some k → made < after → (o : Option ℕ) → start (region_run first) r after ≡ o →
      (told tells : Option (List ℕ)) →
      WritesFront (prints_bytes (prints (events_of_first (region_run first) r (suc made)))) told tells →
      WritesFront (prints_bytes (prints_until (region_run first) o)) told tells
  front_until made after k here less None e told tells w =
      let stop = stop_from (region_run first) k (start (region_run first) r (suc made)) in
      front_within (prints (events_of_first (region_run first) r (suc made))) (prints (region_run first).trace) told tells (
        prints (drop stop (region_run first).trace),
        ap prints (sym (take-append-drop stop (region_run first).trace)) ∙ prints-append (take stop
            (region_run first).trace) (drop stop (region_run first).trace) ∙ ap (λ (es : List Event). prints es ++ prints (drop stop (region_run first).trace))
            (sym (events_taken made k here)),
      ) w
  front_until made after k here less (Some j) e told tells w =
      let q = events_more (region_run first) r (suc made) after (omega (arith, less)) in
      front_within (prints (events_of_first (region_run first) r (suc made))) (prints (take j (region_run first).trace)) told tells
      (prints q.0, ap prints (events_until after j e ∙ q.1) ∙ prints-append (events_of_first (region_run first) r (suc made)) q.0) w

-- ---- what was written when it stops

module _ (p : Program) (plan : Plan) (input : List ℤ) (first : MachineState) (start_runner now : Runner)
    (begun : RegionStands p plan input first 0 start_runner) where
  at_once : start (region_run first) plan.region 0 ≡ Some 0
  at_once = subst (λ (m : ℕ). start (region_run first) plan.region m ≡ Some (steps_of_first (region_run first) plan.region m)) begun.count
      (starts_here plan first start_runner.ledger.committed start_runner.ledger.account begun.progress)

  module _ (made : ℕ) (s : RegionStands p plan input first made now) (waiting : List ℤ) (told mid : Option (List ℕ))
      (e : Emits (to_come (machine_of start_runner)) (waiting ++ to_come (machine_of now)) told mid) where
    piece : (cs : List Config) × Continues (region_run first) (events_of_first (region_run first) plan.region made) cs (rest_of_run (machine_of now))
    piece = old_piece p plan input first made now now s

    -- what was written and what waits is what the iterations printed
    printed : e.written ++ waiting ≡ prints (events_of_first (region_run first) plan.region made)
    printed =
        append_cancel_right (e.written ++ waiting) (prints (events_of_first (region_run first) plan.region made)) (to_come (machine_of now))
        (append_assoc e.written waiting (to_come (machine_of now)) ∙ sym e.splits ∙ begun_prints p plan input first start_runner begun
        ∙ prints_on (region_run first) (rest_of_run (machine_of now)) (events_of_first (region_run first) plan.region made) piece.0 piece.1)

    emits_events : (more : List ℤ) → Emits (prints (events_of_first (region_run first) plan.region made) ++ more) (waiting ++ more) told mid
    emits_events more = record {
      written = e.written;
      splits = ap (λ (zs : List ℤ). zs ++ more) (sym printed) ∙ append_assoc e.written waiting more;
      sink = e.sink;
    }

    -- It stopped in the next iteration.
    pub stopped_in : (after : ℕ) → made < after → (tells : Option (List ℕ)) →
        WritesFront (prints_bytes (waiting ++ prints (iteration (region_run first) plan.region made))) mid tells →
        WritesFront (prints_bytes (prints_until (region_run first) (start (region_run first) plan.region after))) told tells
    stopped_in after less tells w =
        let it = prints (iteration (region_run first) plan.region made) in
        let here = subst (λ (m : ℕ). start (region_run first) plan.region m ≡ Some (steps_of_first (region_run first) plan.region m)) s.count
        (starts_here plan first now.ledger.committed now.ledger.account s.progress) in
        front_until first plan.region at_once made after (steps_of_first (region_run first) plan.region made) here less
        (start (region_run first) plan.region after) refl told tells
        (subst (λ (zs : List ℤ). WritesFront (prints_bytes zs) told tells)
        (sym (prints-append (events_of_first (region_run first) plan.region made) (iteration (region_run first) plan.region made)))
        (emits_front (prints (events_of_first (region_run first) plan.region made) ++ it) (waiting ++ it) told mid tells (emits_events it) w))

    -- .. or behind all that were to be made
    pub stopped_behind : (tells : Option (List ℕ)) → WritesFront (prints_bytes waiting) mid tells →
        WritesFront (prints_bytes (prints_until (region_run first) (start (region_run first) plan.region made))) told tells
    stopped_behind tells w =
        let here = subst (λ (m : ℕ). start (region_run first) plan.region m ≡ Some (steps_of_first (region_run first) plan.region m)) s.count
        (starts_here plan first now.ledger.committed now.ledger.account s.progress) in
        let until = events_until first plan.region at_once made (steps_of_first (region_run first) plan.region made) here in
        let all : e.written ++ waiting ≡ prints (take (steps_of_first (region_run first) plan.region made) (region_run first).trace) = printed
        ∙ ap prints (sym until) in
        subst (λ (o : Option ℕ). WritesFront (prints_bytes (prints_until (region_run first) o)) told tells) (sym here)
        (emits_front (prints (take (steps_of_first (region_run first) plan.region made) (region_run first).trace)) waiting told mid tells
        (record { written = e.written; splits = sym all; sink = e.sink }) w)

  -- It stopped behind the region's end.
  pub stopped_ended : (after : ℕ) → start (region_run first) plan.region after ≡ None → (waiting : List ℤ) (told mid tells : Option (List ℕ)) →
      Emits (to_come (machine_of start_runner)) (waiting ++ to_come (machine_of now)) told mid → WritesFront (prints_bytes waiting) mid tells →
      WritesFront (prints_bytes (prints_until (region_run first) (start (region_run first) plan.region after))) told tells
  stopped_ended after none waiting told mid tells e w =
      subst (λ (o : Option ℕ). WritesFront (prints_bytes (prints_until (region_run first) o)) told tells) (sym none)
      (subst (λ (zs : List ℤ). WritesFront (prints_bytes zs) told tells) (begun_prints p plan input first start_runner begun)
      (emits_front (to_come (machine_of start_runner)) (waiting ++ to_come (machine_of now)) told mid tells e
      (front_ahead waiting (to_come (machine_of now)) mid tells w)))

  -- It stopped behind the iterations, or the region's end.
  pub stopped_after : (made after : ℕ) (end : Option RegionEnd) → Reached p plan input first made now end → made ≤ after → (end ≡ None → after ≤ made) →
      (waiting : List ℤ) (told mid tells : Option (List ℕ)) → Emits (to_come (machine_of start_runner)) (waiting ++ to_come (machine_of now)) told mid →
      WritesFront (prints_bytes waiting) mid tells →
      WritesFront (prints_bytes (prints_until (region_run first) (start (region_run first) plan.region after))) told tells
  stopped_after made after None s low high waiting told mid tells e w =
      let same : made ≡ after = let le = high refl in omega (arith, low, le) in
      subst (λ (m : ℕ). WritesFront (prints_bytes (prints_until (region_run first) (start (region_run first) plan.region m))) told tells) same
      (stopped_behind made s waiting told mid e tells w)
  stopped_after made after (Some end) s low high waiting told mid tells e w =
      stopped_ended after (start_later (region_run first) plan.region made after low s.unreached) waiting told mid tells e w
