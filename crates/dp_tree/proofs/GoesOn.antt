-- A run goes on from each of its configurations as the run from there does.
use Rattle.std.proofs.Common.{◌≡◌, refl, sym, ap, ap₂, ◌∙◌, ℕ, zero, suc, ◌+◌, ◌-◌, ◌≤◌, ◌||◌, Bool, true, List, [], ◌∷◌, ◌++◌, ℤ, length, take, drop, map}
use Rattle.std.proofs.Common.{Option, Some, None, is_some, slice_get, slice_range, count_by, nat_lt, cond, arith}
use Rattle.std.proofs.lemmas.Option.{slice_get-map, slice_get_within}
use Rattle.std.proofs.lemmas.List.{drop-drop, take-append-drop, length-take-le}
use Rattle.std.proofs.lemmas.List.Sums.{sum_by-append}
use Rattle.dp_tree.specs.declared.Program.{Program}
use Rattle.dp_tree.specs.Step.{Config, Event, Step, Stepped, step}
use Rattle.dp_tree.specs.Trace.{Run, run_of, run_by}
use Rattle.dp_tree.specs.Iteration.{stands_at_head, places, starts, start, is_within, begun_count, closes, last_events, stop_from, events_from, iteration}
use Rattle.dp_tree.specs.Iteration.{is_closing, has_ended, cells_in, cells_after, memory_from, memory_after}
use Rattle.dp_tree.specs.GoesOn.{moved, GoesOnAs, starts_before, GoesOn, GoesOnFrom}
use Rattle.dp_tree.proofs.RunLaws.{runs_by_step}
use Rattle.dp_tree.proofs.MovedLists.{at_drop, count_above, count_below, count_moved, count_to, moved_map, places_moved, places_split, range_moved, same_test}
use Rattle.dp_room.proofs.ListLemmas.{get_behind}

module _ (p : Program) (input : List ℤ) where
  -- behind its first k steps the run is the one from d
  record Rest (fuel k : ℕ) (run : Run) (d : Config) : Type 0 where
    within : k ≤ fuel
    trace : drop k run.trace ≡ (run_of p input (fuel - k) d).trace
    configs : drop k run.configs ≡ (run_of p input (fuel - k) d).configs
    end : run.end ≡ (run_of p input (fuel - k) d).end

  one_config : {A : Type 0} (c d : Config) (k : ℕ) → slice_get (c ∷ []) (suc k) ≡ Some d → A
  one_config c d k e = absurd (cc)

  rest_by : (fuel k : ℕ) (c d : Config) → ((next : Config) → slice_get (run_of p input fuel next).configs k ≡ Some d →
      Rest fuel k (run_of p input fuel next) d) →
      (s : Step) → slice_get (run_by (run_of p input fuel) (suc fuel) c s).configs (suc k) ≡ Some d →
      Rest (suc fuel) (suc k) (run_by (run_of p input fuel) (suc fuel) c s) d
  rest_by fuel k c d go (Stepped event next) e =
      let q = go next e in let left : fuel - k ≡ suc fuel - suc k = omega arith in
      record {
        within = omega (arith, q.within);
        trace = q.trace ∙ ap (λ (n : ℕ). (run_of p input n d).trace) left;
        configs = q.configs ∙ ap (λ (n : ℕ). (run_of p input n d).configs) left;
        end = q.end ∙ ap (λ (n : ℕ). (run_of p input n d).end) left;
      }
  rest_by fuel k c d go _ e = one_config c d k e

  rest_of : (k fuel : ℕ) (c d : Config) → slice_get (run_of p input fuel c).configs k ≡ Some d → Rest fuel k (run_of p input fuel c) d
  unfolding run_of
  rest_of zero fuel c d e =
      let same : c ≡ d = cc (e, (runs_by_step p input fuel c).first) in let all : fuel ≡ fuel - 0 = omega arith in
      let run : run_of p input fuel c ≡ run_of p input (fuel - 0) d = ap (λ (n : ℕ). run_of p input n c) all ∙ ap (run_of p input (fuel - 0)) same in
      record { within = omega arith; trace = ap (λ (r : Run). r.trace) run; configs = ap (λ (r : Run). r.configs) run; end = ap (λ (r : Run). r.end) run }
  rest_of (suc k) zero c d e = one_config c d k e
  rest_of (suc k) (suc fuel) c d e = rest_by fuel k c d (λ next. rest_of k fuel next d) (step p input c) e

  module _ (fuel k r : ℕ) (c d : Config) (at : slice_get (run_of p input fuel c).configs k ≡ Some d) where
    abbrev run : Run
    run = run_of p input fuel c

    abbrev later : Run
    later = run_of p input (fuel - k) d

    q : Rest fuel k run d
    q = rest_of k fuel c d at

    abbrev here : Config → Bool
    here = stands_at_head r

    -- the starts before
    abbrev earlier : List ℕ
    earlier = places here 0 (take k run.configs)

    kept : run.fuel ≡ fuel
    kept = (runs_by_step p input fuel c).kept

    left : later.fuel ≡ fuel - k
    left = (runs_by_step p input (fuel - k) d).kept

    fuels : run.fuel ≡ k + later.fuel
    fuels = omega (arith, kept, left, q.within)

    front : length (take k run.configs) ≡ k
    front = length-take-le k run.configs (omega (arith, slice_get_within run.configs k d at))

    starts_are : starts run r ≡ earlier ++ map (λ (n : ℕ). k + n) (starts later r)
    starts_are = ap (places here 0) (sym (take-append-drop k run.configs)) ∙ places_split here 0 (take k run.configs) (drop k run.configs)
        ∙ ap (λ (n : ℕ). earlier ++ places here n (drop k run.configs)) (omega (arith, front))
        ∙ ap (λ (cs : List Config). earlier ++ places here k cs) q.configs
        ∙ ap (λ (ns : List ℕ). earlier ++ ns) (places_moved here k later.configs)

    counted : (n : ℕ) → k ≤ n → count_by (λ m. nat_lt m n) (starts run r) ≡ length earlier + count_by (λ m. nat_lt m n)
        (map (λ (i : ℕ). k + i) (starts later r))
    counted n h = ap (λ (ns : List ℕ). count_by (λ m. nat_lt m n) ns) starts_are ∙ sum_by-append (λ (m : ℕ). cond (nat_lt m n) 1 0) earlier
        (map (λ (i : ℕ). k + i) (starts later r))
        ∙ ap (λ (i : ℕ). i + count_by (λ m. nat_lt m n) (map (λ (i : ℕ). k + i) (starts later r)))
        (count_below here n 0 (take k run.configs) (omega (arith, front, h)))

    before_is : starts_before run r k ≡ length earlier
    before_is =
        let none : count_by (λ m. nat_lt m k) (map (λ (i : ℕ). k + i) (starts later r)) ≡ 0 = ap (λ (ns : List ℕ). count_by (λ m. nat_lt m k) ns)
        (sym (places_moved here k later.configs)) ∙ count_above here k k later.configs (omega arith) in
        omega (arith, counted k (omega arith), none)

    module _ (m : ℕ) (before : length earlier ≡ m) where
      begun_all : begun_count run r ≡ m + begun_count later r
      begun_all =
          let sum = counted run.fuel (omega (arith, kept, q.within)) in
          let more : count_by (λ i. nat_lt i run.fuel) (map (λ (i : ℕ). k + i) (starts later r)) ≡ begun_count later r =
          ap (λ (n : ℕ). count_by (λ i. nat_lt i n) (map (λ (i : ℕ). k + i) (starts later r))) fuels ∙ count_moved k later.fuel (starts later r) in
          omega (arith, sum, more, before)

      started : (i : ℕ) → start run r (m + i) ≡ moved k (start later r i)
      started i =
          ap (λ (ns : List ℕ). slice_get ns (m + i)) starts_are
          ∙ ap (λ (n : ℕ). slice_get (earlier ++ map (λ (j : ℕ). k + j) (starts later r)) (n + i)) (sym before)
          ∙ get_behind earlier (map (λ (j : ℕ). k + j) (starts later r)) i ∙ slice_get-map (λ (j : ℕ). k + j) (starts later r) i ∙ moved_map k (start later r i)

      next_started : (i : ℕ) → start run r (suc (m + i)) ≡ moved k (start later r (suc i))
      next_started i = let same : suc (m + i) ≡ m + suc i = omega arith in ap (start run r) same ∙ started (suc i)

      within_moved : (o : Option ℕ) → is_within run.fuel (moved k o) ≡ is_within later.fuel o
      within_moved None = refl
      within_moved (Some n) = ap (nat_lt (k + n)) fuels ∙ same_test k n later.fuel

      stop_moved : (a : ℕ) (next : Option ℕ) → stop_from run (k + a) (moved k next) ≡ k + stop_from later a next
      stop_moved a (Some n) = refl
      stop_moved a None =
          let same : drop (k + a) run.trace ≡ drop a later.trace = sym (drop-drop a k run.trace) ∙ ap (drop a) q.trace in
          let long = ap (λ (es : List Event). length (last_events es)) same in
          omega (arith, long)

      events_moved : (here next : Option ℕ) → events_from run (moved k here) (moved k next) ≡ events_from later here next
      events_moved None next = refl
      events_moved (Some a) next =
          ap (slice_range run.trace (k + a)) (stop_moved a next) ∙ range_moved run.trace k a (stop_from later a next)
          ∙ ap (λ (es : List Event). slice_range es a (stop_from later a next)) q.trace

      iterations : (i : ℕ) → iteration run r (m + i) ≡ iteration later r i
      iterations i = ap₂ (events_from run) (started i) (next_started i) ∙ events_moved (start later r i) (start later r (suc i))

      closing : (i : ℕ) → is_closing run r (m + i) ≡ is_closing later r i
      closing i = ap closes (iterations i)

      some_moved : (o : Option ℕ) → is_some (moved k o) ≡ is_some o
      some_moved None = refl
      some_moved (Some n) = refl

      ended_so : (i : ℕ) → has_ended run r (m + i) ≡ has_ended later r i
      ended_so i = ap₂ (λ (a b : Bool). a || b) (ap is_some (next_started i) ∙ some_moved (start later r (suc i))) (closing i)

      cells_moved : (n : ℕ) → cells_after run (k + n) ≡ cells_after later n
      cells_moved n = ap cells_in (at_drop k n run.configs ∙ ap (λ (cs : List Config). slice_get cs n) q.configs)

      memory_moved : (next last : Option ℕ) → memory_from run (moved k next) (moved k last) ≡ memory_from later next last
      memory_moved (Some n) last = cells_moved n
      memory_moved None (Some n) = ap (cells_after run) (stop_moved n None) ∙ cells_moved (stop_from later n None)
      memory_moved None None = refl

      memories : is_some (start later r 0) ≡ true → (i : ℕ) → memory_after run r (m + i) ≡ memory_after later r i
      memories some zero = ap (λ (o : Option ℕ). memory_from run o (start run r ((m + 0) - 1))) (started 0) ∙ by (start later r 0) some
        where
          by : (o : Option ℕ) → is_some o ≡ true → memory_from run (moved k o) (start run r ((m + 0) - 1)) ≡ memory_from later o (start later r (0 - 1))
          by None e = absurd (cc)
          by (Some n) e = cells_moved n
      memories some (suc i) =
          let last : (m + suc i) - 1 ≡ m + i = omega arith in let this : suc i - 1 ≡ i = omega arith in
          ap₂ (memory_from run) (started (suc i)) (ap (start run r) last ∙ started i) ∙ memory_moved (start later r (suc i)) (start later r i)
          ∙ ap (λ (n : ℕ). memory_from later (start later r (suc i)) (start later r n)) (sym this)

      goes_on_as : GoesOnAs r m k run later
      goes_on_as = record {
        fuel = fuels;
        trace = q.trace;
        configs = q.configs;
        end = q.end;
        started = started;
        begun = λ i. ap (is_within run.fuel) (started i) ∙ within_moved (start later r i);
        begun_in_all = begun_all;
        iterations = iterations;
        closing = closing;
        ended = ended_so;
        memory = memories;
      }

  pub goes_on : GoesOn p input
  goes_on fuel k r c d at = goes_on_as fuel k r c d at (starts_before (run_of p input fuel c) r k) (sym (before_is fuel k r c d at))

  -- where an iteration starts there, so many have started before
  first_here : (k m : ℕ) (o : Option ℕ) → moved k o ≡ Some k → o ≡ Some 0
  first_here k m None e = absurd (cc)
  first_here k m (Some n) e = let sum : k + n ≡ k = cc e in let none : n ≡ 0 = omega (arith, sum) in ap (λ (i : ℕ). Some i) none

  pub goes_on_from : GoesOnFrom p input
  goes_on_from fuel k r m c d at s =
      let count = (count_to (stands_at_head r) 0 (run_of p input fuel c).configs m k s).0 in
      let q = goes_on_as fuel k r c d at m (sym (before_is fuel k r c d at) ∙ count) in let all : m + 0 ≡ m = omega arith in
      (q, first_here k m (start (run_of p input (fuel - k) d) r 0) (sym (q.started 0) ∙ ap (start (run_of p input fuel c) r) all ∙ s))
