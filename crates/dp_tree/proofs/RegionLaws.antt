-- A region's events are those of its iterations.
use Rattle.std.proofs.Common.{◌≡◌, refl, sym, ap, ap₂, ◌∙◌, ℕ, zero, suc, ◌+◌, ◌-◌, ◌<◌, Bool, true, false, List, [], ◌∷◌, ◌++◌, ℤ, length, get_or, take, drop}
use Rattle.std.proofs.Common.{filter, Option, Some, None, slice_get, slice_range, append-nil, inl, inr, arith}
use Rattle.std.proofs.Math.Seq.{drop-append_seam, take-append_seam}
use Rattle.std.proofs.lemmas.List.Elements.{filter-append}
use Rattle.std.proofs.lemmas.Option.{slice_get_past, slice_get-get_or}
use Rattle.dp_tree.specs.declared.Stmt.{Stmt, out-Stmt}
use Rattle.dp_tree.specs.declared.Stmt.TheVariants as tree
use Rattle.dp_tree.specs.declared.Program.{Program}
use Rattle.dp_tree.specs.declared.Stmt.TheOpen.{Stmt-F}
use Rattle.std.proofs.lemmas.Bool.{cases_Bool}
use Rattle.dp_tree.specs.Event.{Event, value_of}
use Rattle.dp_tree.specs.Step.{Config, Step, Stepped, followed, behind_region, behind_one, region_number, step}
use Rattle.dp_tree.specs.Trace.{Run, run_of, run_by, ended, extended, start_cells, begin}
use Rattle.dp_tree.specs.Iteration.{begins_with, stands_at_head, places, starts, start, stop_from}
use Rattle.dp_tree.specs.IterationLaws.{events_of_first, AreAdjacent}
use Rattle.dp_tree.specs.RegionLaws.{is_other_site, keeps, StandsOnce, is_event_of, RegionsAreIterations}
use Rattle.dp_tree.proofs.IterationLaws.{iterations_adjoin}
use Rattle.dp_tree.proofs.Heads.{and_true, keeps_all, keeps_at, keeps_out, keeps_followed, no_region, followed-append, keeps_behind, taken, taken_left}
use Rattle.dp_tree.proofs.Heads.{left-append, stepped, standing_to_do}
use Rattle.dp_tree.proofs.InsideRegion.{Inside, Quiet, quiet, region_out, left_out, skip, meet, at_region, later_stop, still_none, inside}
use Rattle.dp_tree.proofs.Places.{place_down}

module _ (p : Program) (input : List ℤ) (r : ℕ) (once : StandsOnce p r) where
  abbrev others : ℕ → Bool
  others = is_other_site p r

  abbrev only : List Event → List Event
  only events = filter (is_event_of p r) events

  abbrev here : Config → Bool
  here = stands_at_head r

  abbrev region : Stmt
  region = tree.Region r once.site once.cond once.body

  -- before it: events of other sites, and then the region
  record Reached (run : Run) : Type 0 where
    before : List Event
    own : List Event
    behind : List Event
    trace_is : run.trace ≡ before ++ (own ++ behind)
    none_before : only before ≡ []
    all_own : only own ≡ own
    none_behind : only behind ≡ []
    first : (k : ℕ) → slice_get (places here 0 run.configs) 0 ≡ Some k → length before ≡ k
    stops : (i k : ℕ) → slice_get (places here 0 run.configs) i ≡ Some k → slice_get (places here 0 run.configs) (suc i) ≡ None →
        stop_from run k None ≡ length before + length own
    unreached : places here 0 run.configs ≡ [] → own ≡ []

  -- at the region
  arrives : (c : Config) (run : Run) → here c ≡ true → (more : List Config) → run.configs ≡ c ∷ more → Inside p input r once run → Reached run
  arrives c run on more configs_are h = let on_places = ap (λ (cs : List Config). places here 0 cs) configs_are ∙ meet p input r once c 0 more on in record {
    before = [];
    own = h.own;
    behind = h.behind;
    trace_is = h.trace_is;
    none_before = refl;
    all_own = h.all_own;
    none_behind = h.none_behind;
    first = λ k e. first k (sym (ap (λ (ns : List ℕ). slice_get ns 0) on_places) ∙ e);
    stops = λ i k e f. let same : 0 + length h.own ≡ length h.own = omega arith in h.stops i k e f ∙ sym same;
    unreached = λ e. let clash : 0 ∷ places here 1 more ≡ [] = sym on_places ∙ e in absurd (cc clash);
  }
    where
      first : (k : ℕ) → slice_get (0 ∷ places here 1 more) 0 ≡ Some k → 0 ≡ k
      first k e = cc

  -- before the region, where no step is made
  waits : (fuel : ℕ) (c : Config) (end : _) → here c ≡ false → Reached (ended fuel c end)
  waits fuel c end off = record {
    before = [];
    own = [];
    behind = [];
    trace_is = refl;
    none_before = refl;
    all_own = refl;
    none_behind = refl;
    first = λ k e. no_place 0 k e;
    stops = λ i k e f. no_place i k e;
    unreached = λ e. refl;
  }
    where
      no_place : {A : Type 0} (i k : ℕ) → slice_get (places here 0 (c ∷ [])) i ≡ Some k → A
      no_place i k e = let clash : None ≡ Some k = sym (ap (λ (ns : List ℕ). slice_get ns i) (skip p input r once c 0 [] off)) ∙ e in absurd (cc clash)

  -- an event before the region
  goes_on : (fuel : ℕ) (c : Config) (event : Event) (run : Run) → others event.site ≡ true → here c ≡ false → Reached run → Reached (extended fuel c event run)
  goes_on fuel c event run is off h = let off_places = skip p input r once c 0 run.configs off in record {
    before = event ∷ h.before;
    own = h.own;
    behind = h.behind;
    trace_is = ap (λ (es : List Event). event ∷ es) h.trace_is;
    none_before = left_out p input r once event h.before is ∙ h.none_before;
    all_own = h.all_own;
    none_behind = h.none_behind;
    first = λ k e. first k (sym (ap (λ (ns : List ℕ). slice_get ns 0) off_places) ∙ e);
    stops = λ i k e f. later_stop p input r once fuel c event run (length h.before + length h.own) i k h.stops
        (sym (ap (λ (ns : List ℕ). slice_get ns i) off_places) ∙ e) (sym (ap (λ (ns : List ℕ). slice_get ns (suc i)) off_places) ∙ f)
        ∙ one_more (length h.before) (length h.own);
    unreached = λ e. h.unreached (still_none p input r once run.configs (sym off_places ∙ e));
  }
    where
      first : (k : ℕ) → slice_get (places here 1 run.configs) 0 ≡ Some k → suc (length h.before) ≡ k
      first k e = let down = place_down here 0 run.configs 0 k e in ap (λ (n : ℕ). suc n) (h.first down.0 down.1) ∙ sym down.2

      one_more : (a b : ℕ) → suc (a + b) ≡ suc a + b
      one_more a b = omega arith

  -- an event that passes the region by
  passes_by : (fuel : ℕ) (c : Config) (event : Event) (run : Run) → others event.site ≡ true → here c ≡ false → Quiet p input r once run →
      Reached (extended fuel c event run)
  passes_by fuel c event run is off q = let nowhere = skip p input r once c 0 run.configs off ∙ q.no_start 1 in record {
    before = event ∷ [];
    own = [];
    behind = run.trace;
    trace_is = refl;
    none_before = left_out p input r once event [] is;
    all_own = refl;
    none_behind = q.none;
    first = λ k e. let none : None ≡ Some k = sym (ap (λ (ns : List ℕ). slice_get ns 0) nowhere) ∙ e in absurd (cc none);
    stops = λ i k e f. let none : None ≡ Some k = sym (ap (λ (ns : List ℕ). slice_get ns i) nowhere) ∙ e in absurd (cc none);
    unreached = λ e. refl;
  }

  region_left : behind_region (region ∷ once.behind) ≡ once.behind
  region_left = ap (λ (u : Stmt-F Stmt). behind_one (region_number u) once.behind (behind_region once.behind)) (region_out p input r once)

  reached_by : (n : ℕ) (c : Config) (x : Stmt) (xs : List Stmt)
      (go : (d : Config) (ys : List Stmt) → d.to_do ≡ ys ++ region ∷ once.behind → keeps_all others r ys ≡ true → Reached (run_of p input n d)) (s : Step) →
      step p input c ≡ s → c.to_do ≡ x ∷ xs ++ region ∷ once.behind → keeps_all others r (x ∷ xs) ≡ true → here c ≡ false →
      Reached (run_by (run_of p input n) (suc n) c s)
  reached_by n c x xs go (Stepped event next) e todo h off =
      let both = and_true (keeps others r x) (keeps_all others r xs) h in
      let head : keeps_at others r (out-Stmt x) ≡ true = sym (keeps_out others r x) ∙ both.0 in
      let st = stepped p input c x (xs ++ region ∷ once.behind) event next todo e in
      let kept = keeps_followed others r x xs (out-Stmt x) (value_of event.effect) both.0 head both.1 in
      let mine = st.tested others r head in
      elim (cases_Bool (taken (out-Stmt x) (value_of event.effect))) [
        | inl t ↦
            let out = st.to_do ∙ taken_left x (xs ++ region ∷ once.behind) (out-Stmt x) (value_of event.effect) t in
            elim (left-append xs (region ∷ once.behind)) [
              | inl w ↦
                  let rest : next.to_do ≡ behind_region xs ++ region ∷ once.behind = out ∙ w in
                  goes_on (suc n) c event (run_of p input n next) mine off (go next (behind_region xs) rest (keeps_behind others r xs both.1))
              | inr w ↦
                  let todo_next : next.to_do ≡ once.behind = out ∙ w ∙ region_left in
                  passes_by (suc n) c event (run_of p input n next) mine off (quiet p input r once n next (ap (keeps_all others r) todo_next ∙ once.later))
            ]
        | inr t ↦
            let rest : next.to_do ≡ followed x xs (out-Stmt x) (value_of event.effect) ++ region ∷ once.behind = st.to_do
            ∙ followed-append x xs (region ∷ once.behind) (out-Stmt x) (value_of event.effect) t in
            goes_on (suc n) c event (run_of p input n next) mine off (go next (followed x xs (out-Stmt x) (value_of event.effect)) rest kept)
      ]
  reached_by n c x xs go _ e todo h off = waits (suc n) c _ off

  first_of_run : (n : ℕ) (c : Config) → (more : List Config) × ((run_of p input n c).configs ≡ c ∷ more)
  unfolding run_of
  first_of_run zero c = ([], refl)
  first_of_run (suc n) c = by (step p input c)
    where
      by : (s : Step) → (more : List Config) × ((run_by (run_of p input n) (suc n) c s).configs ≡ c ∷ more)
      by (Stepped event next) = ((run_of p input n next).configs, refl)
      by _ = ([], refl)

  not_yet : (c : Config) (x : Stmt) (xs : List Stmt) → c.to_do ≡ x ∷ xs ++ region ∷ once.behind → keeps_all others r (x ∷ xs) ≡ true → here c ≡ false
  not_yet c x xs e h =
      ap (begins_with r) e ∙ no_region others r (out-Stmt x) (sym (keeps_out others r x) ∙ (and_true (keeps others r x) (keeps_all others r xs) h).0)

  reached : (n : ℕ) (c : Config) (xs : List Stmt) → c.to_do ≡ xs ++ region ∷ once.behind → keeps_all others r xs ≡ true → Reached (run_of p input n c)
  unfolding run_of
  reached n c [] e h = let front = first_of_run n c in
      arrives c (run_of p input n c) (at_region p input r once c once.behind e) front.0 front.1 (inside p input r once n c [] e refl refl)
  reached zero c (x ∷ xs) e h = waits 0 c _ (not_yet c x xs e h)
  reached (suc n) c (x ∷ xs) e h = reached_by n c x xs (reached n) (step p input c) refl e h (not_yet c x xs e h)

  module _ (run : Run) (adjacent : AreAdjacent run r) (h : Reached run) where
    only_own : only run.trace ≡ h.own
    only_own =
        ap only h.trace_is ∙ filter-append (is_event_of p r) h.before (h.own ++ h.behind)
        ∙ ap (λ (es : List Event). es ++ only (h.own ++ h.behind)) h.none_before
        ∙ filter-append (is_event_of p r) h.own h.behind
        ∙ ap₂ (λ (xs ys : List Event). xs ++ ys) h.all_own h.none_behind ∙ append-nil h.own

    middle : (a own behind : List Event) → slice_range (a ++ (own ++ behind)) (length a) (length a + length own) ≡ own
    middle a own behind =
        let size : (length a + length own) - length a ≡ length own = omega arith in
        ap (λ (n : ℕ). take n (drop (length a) (a ++ (own ++ behind)))) size
        ∙ ap (λ (es : List Event). take (length own) es) (drop-append_seam a (own ++ behind)) ∙ take-append_seam own behind

    joined_own : (ns : List ℕ) → starts run r ≡ ns → h.own ≡ events_of_first run r (length ns)
    joined_own [] e = h.unreached e
    joined_own (n ∷ ns) e =
        let k = get_or (n ∷ ns) (length ns) 0 in let inner : length ns < length (n ∷ ns) = omega arith in
        let first_at : start run r 0 ≡ Some n = ap (λ (xs : List ℕ). slice_get xs 0) e in
        let last_at : start run r (length ns) ≡ Some k = ap (λ (xs : List ℕ). slice_get xs (length ns)) e ∙ slice_get-get_or (n ∷ ns) (length ns) 0 inner in
        let past : start run r (suc (length ns)) ≡ None = ap (λ (xs : List ℕ). slice_get xs (suc (length ns))) e
        ∙ slice_get_past (n ∷ ns) (suc (length ns)) (omega arith) in
        sym (adjacent.joined n (length ns) k first_at last_at
        ∙ ap (λ (o : Option ℕ). slice_range run.trace n (stop_from run k o)) past
        ∙ ap (λ (m : ℕ). slice_range run.trace n m) (h.stops (length ns) k last_at past)
        ∙ ap (λ (m : ℕ). slice_range run.trace m (length h.before + length h.own)) (sym (h.first n first_at))
        ∙ ap (λ (es : List Event). slice_range es (length h.before) (length h.before + length h.own)) h.trace_is
        ∙ middle h.before h.own h.behind)

    made_up : only run.trace ≡ events_of_first run r (length (starts run r))
    made_up = only_own ∙ joined_own (starts run r) refl

pub regions_are_iterations : (p : Program) (input : List ℤ) → RegionsAreIterations p input
regions_are_iterations p input fuel r once =
    made_up p input r once (run_of p input fuel (begin p)) (iterations_adjoin p input fuel (begin p) r)
    (reached p input r once fuel (begin p) once.before (standing_to_do p p.main (start_cells p.vars) ∙ once.main_is) once.earlier)
