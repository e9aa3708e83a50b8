-- The iterations of a run that begins within `main`, each as a piece of the source's steps.
use Rattle.dp_semantics.proofs.Names.{last_events, ◌≡◌, ◌⊎◌, inl, inr, refl, sym, ap, ◌∙◌, subst, ℕ, suc, ◌+◌, ◌-◌, ◌<◌, ◌≤◌, true, false, ◌||◌, List, [], ◌∷◌}
use Rattle.dp_semantics.proofs.Names.{◌++◌, ℤ, pos, length, get_or, take, drop, Option, Some, None, is_some, slice_get, slice_range, Err, arith}
use Rattle.dp_semantics.proofs.Names.{drop-append_seam, take-append_seam, append-nil, FaultKind, Stmt, out-Stmt, Program, Plan, Config, Event, evaluated, Run}
use Rattle.dp_semantics.proofs.Names.{run_of, standing, StandsInMain, stands_at_head, start, stop_from, events_from, iteration, is_closing, has_ended, cells_in}
use Rattle.dp_semantics.proofs.Names.{cells_after, memory_from, memory_after, places, to_do_in, to_do_after}
use Rattle.dp_tree.specs.Iteration.{closes as closes_of}
use Rattle.dp_semantics.proofs.Setting.{size, Accepted, Each, each_split}
use Rattle.dp_theorem.proofs.Whole.{turn_of, Cleared, clear-at, Goes}
use Rattle.dp_theorem.proofs.Begun.{reach}
use Rattle.dp_theorem.proofs.Placed.{StopsSo, before_it, beyond, Spotted, Spot, spot_next, behind, all_at, at_start, PlaceAt, place_at, From, run_from}
use Rattle.dp_theorem.proofs.Placed.{run_first}
use Rattle.dp_theorem.proofs.Turns.{clear, start_at, run_at, next_start, Outcome, onward, closed, broken, Turned, standing_is, starts_first, turned}
use Rattle.dp_tree.proofs.InMain.{cleared_length}

slice_get-seam : {X : Type 0} (a b : List X) (k j : ℕ) → k ≡ length a + j → slice_get (a ++ b) k ≡ slice_get b j
slice_get-seam [] b k j e = let same : k ≡ j = omega (arith, e) in ap (slice_get b) same
slice_get-seam (x ∷ a) b k j e = let same : k ≡ suc (length a + j) = omega (arith, e) in
    ap (slice_get (x ∷ a ++ b)) same ∙ slice_get-seam a b (length a + j) j refl

slice_mid : {X : Type 0} (a b c : List X) (k e : ℕ) → k ≡ length a → e ≡ k + length b → slice_range (a ++ (b ++ c)) k e ≡ b
slice_mid a b c k e from up =
    let count : e - k ≡ length b = omega (arith, up) in
    ap (λ (xs : List _). take (e - k) xs) (ap (λ (n : ℕ). drop n (a ++ (b ++ c))) from ∙ drop-append_seam a (b ++ c)) ∙ ap (λ (n : ℕ). take n (b ++ c)) count
    ∙ take-append_seam b c

module _ {p : Program} {plan : Plan} (a : Accepted p plan) (input : List ℤ) (fuel : ℕ) (begins : Config) (within : StandsInMain p begins) where
  abbrev pub run : Run
  run = run_of p input fuel begins

  abbrev r : ℕ
  r = plan.region

  abbrev at : ℕ → List ℤ → Run
  at left cells = run_at a input left cells

  -- the i-th start, after k steps, and the run from it
  record AtStart (i k : ℕ) : Type 0 where
    pub cells : List ℤ
    pub size_is : length cells ≡ size p
    pub left : ℕ
    pub steps_are : fuel ≡ k + left
    pub before : List Event
    pub trace_is : run.trace ≡ before ++ (at left cells).trace
    pub before_is : length before ≡ k
    pub front : List Config
    pub configs_are : run.configs ≡ front ++ (at left cells).configs
    pub end_is : run.end ≡ (at left cells).end
    pub front_is : length front ≡ k
    pub next : start run r (suc i) ≡ next_start a input k left cells

  spot : Spot r (behind a) (within.inner ++ within.behind)
  spot = elim (reach r a.statement a.tail a.front a.main_is a.front_free a.tail_free within) [ inl q ↦ before_it q.between q.is q.free | inr w ↦ beyond w ]

  spotted : Each (Spotted a input) run.configs
  spotted = subst (λ (c : Config). Each (Spotted a input) (run_of p input fuel c).configs) (sym within.config_is)
      (all_at p input (size p) (Spot r (behind a)) (spot_next a) fuel (within.inner ++ within.behind) within.cells spot within.cells_are)

  found_at : (i k : ℕ) → start run r i ≡ Some k → AtStart i k
  found_at i k e = record {
    cells = s.0;
    size_is = s.2;
    left = f.left;
    steps_are = omega (arith, f.steps_are, q.place_is);
    before = f.before;
    trace_is = f.trace_is ∙ ap (λ (c : Config). f.before ++ (run_of p input f.left c).trace) s.1;
    before_is = omega (arith, f.length_is, q.place_is);
    front = q.front;
    configs_are = q.is ∙ ap (λ (cs : List Config). q.front ++ cs) configs;
    end_is = f.end_is ∙ ap (λ (c : Config). (run_of p input f.left c).end) s.1;
    front_is = omega (arith, q.place_is);
    next = q.next ∙ sym (ap (λ (cs : List Config). slice_get (places (stands_at_head r) k cs) 1) (sym configs ∙ ap (λ (c : Config). c ∷ q.behind) s.1)
        ∙ starts_first a input k s.0 q.behind);
  }
    where
      q : PlaceAt Config (stands_at_head r) run.configs 0 i k
      q = place_at (stands_at_head r) run.configs 0 i k e

      f : From p input fuel begins q.front q.found q.behind
      f = run_from p input q.front fuel begins q.found q.behind q.is

      s : (cells : List ℤ) × (q.found ≡ start_at a input cells) × (length cells ≡ size p)
      s = at_start a input q.found (each_split (Spotted a input) q.front (q.found ∷ q.behind) (subst (λ (cs : List Config). Each (Spotted a input) cs) q.is
          spotted)).1.0 q.passes

      configs : q.found ∷ q.behind ≡ (at f.left s.0).configs
      configs = f.configs_are ∙ ap (λ (c : Config). (run_of p input f.left c).configs) s.1

  -- what comes of iteration i, which starts after k steps with so many left: the next one starts, it closes, or the run ends in it
  pub data Ending (i k left : ℕ) (after : List Stmt) (then_cells : List ℤ) : Type 0 where
    goes_on : after ≡ [] → start run plan.region (suc i) ≡ Some (k + length (iteration run plan.region i)) →
        memory_after run plan.region (suc i) ≡ clear a input then_cells → slice_get run.configs (k + length (iteration run plan.region i)) ≡ Some
        (start_at a input then_cells) → is_closing run plan.region i ≡ false → length (iteration run plan.region i) ≤ left → Ending i k left after then_cells
    closes : after ≡ [] → start run plan.region (suc i) ≡ None → is_closing run plan.region i ≡ true →
        stop_from run k None ≡ k + length (iteration run plan.region i) → slice_get run.configs (k + length (iteration run plan.region i)) ≡ Some
        (standing p a.tail (clear a input then_cells)) →
        length (iteration run plan.region i) ≤ left → Ending i k left after then_cells
    breaks : (x : Stmt) (rest : List Stmt) → after ≡ x ∷ rest → has_ended run plan.region i ≡ false →
        (why : (left ≡ length (iteration run plan.region i)) ⊎ ((kind : FaultKind) × (evaluated p input then_cells (out-Stmt x) ≡ Err kind))) →
        StopsSo p input x then_cells (length (iteration run plan.region i) < left) run.end why → Ending i k left after then_cells

  -- iteration i as the source's steps from its memory
  pub record IterationIs (i k : ℕ) : Type 0 where
    pub after : List Stmt
    pub then_cells : List ℤ
    pub path : Goes p input (turn_of a) (memory_after run plan.region i) (iteration run plan.region i) after then_cells
    pub size_is : length (memory_after run plan.region i) ≡ size p
    pub cleared : Cleared p plan (memory_after run plan.region i)
    pub left : ℕ
    pub steps_are : fuel ≡ k + left
    pub to_do_is : to_do_after run k ≡ behind a
    pub ending : Ending i k left after then_cells

  memory_at : (i k : ℕ) → start run r i ≡ Some k → memory_after run r i ≡ cells_after run k
  memory_at i k e = ap (λ (o : Option ℕ). memory_from run o (start run r (i - 1))) e

  iteration_from : (i k : ℕ) (o : Option ℕ) (before events more : List Event) → start run r i ≡ Some k → start run r (suc i) ≡ o →
      run.trace ≡ before ++ (events ++ more) → length before ≡ k → stop_from run k o ≡ k + length events → iteration run r i ≡ events
  iteration_from i k o before events more e f t long stop =
      ap (λ (s : Option ℕ). events_from run s (start run r (suc i))) e ∙ ap (events_from run (Some k)) f
      ∙ ap (λ (es : List Event). slice_range es k (stop_from run k o)) t ∙ slice_mid before events more k (stop_from run k o) (sym long) stop

  module _ (i k : ℕ) (e : start run r i ≡ Some k) (s : AtStart i k) (t : Turned a input s.left s.cells) where
    trace_at : run.trace ≡ s.before ++ (t.events ++ t.more)
    trace_at = s.trace_is ∙ ap (λ (es : List Event). s.before ++ es) t.trace_is

    config_at : (j n : ℕ) → n ≡ k + j → slice_get run.configs n ≡ slice_get (at s.left s.cells).configs j
    config_at j n there =
        ap (λ (cs : List Config). slice_get cs n) s.configs_are ∙ slice_get-seam s.front (at s.left s.cells).configs n j (omega (arith, s.front_is, there))

    config_here : slice_get run.configs k ≡ Some (start_at a input s.cells)
    config_here = config_at 0 k (omega arith) ∙ run_first p input s.left (start_at a input s.cells)

    memory_here : memory_after run r i ≡ clear a input s.cells
    memory_here = memory_at i k e ∙ ap cells_in config_here
        ∙ ap (λ (c : Config). c.cells) (standing_is a input s.cells)

    is_as : iteration run r i ≡ t.events → Ending i k s.left t.after t.then_cells → IterationIs i k
    is_as same ending = record {
      after = t.after;
      then_cells = t.then_cells;
      path = subst (λ (es : List Event). Goes p input (turn_of a) (memory_after run r i) es t.after t.then_cells) (sym same)
          (subst (λ (cells : List ℤ). Goes p input (turn_of a) cells t.events t.after t.then_cells) (sym memory_here) t.path);
      size_is = ap length memory_here ∙ cleared_length r p.vars s.cells ∙ s.size_is;
      cleared = λ c local. ap (λ (cells : List ℤ). get_or cells c (pos 0)) memory_here ∙ clear-at r c p.vars s.cells (inl local);
      left = s.left;
      steps_are = s.steps_are;
      to_do_is = ap to_do_in config_here ∙ ap (λ (c : Config). c.to_do) (standing_is a input s.cells);
      ending = ending;
    }

    -- where no other iteration follows
    stop_at : last_events (t.events ++ t.more) ≡ t.events → stop_from run k None ≡ k + length t.events
    stop_at last =
        let here : drop k run.trace ≡ t.events ++ t.more = ap (drop k) trace_at ∙ ap (λ (n : ℕ). drop n (s.before ++ (t.events ++ t.more))) (sym s.before_is)
        ∙ drop-append_seam s.before (t.events ++ t.more) in
        ap (λ (es : List Event). k + length (last_events es)) here ∙ ap (λ (es : List Event). k + length es) last

    by_outcome : Outcome a input s.left s.cells t.events t.after t.then_cells t.more → IterationIs i k
    by_outcome (onward end next config yet within) =
        let there = s.next ∙ next k in
        let same = iteration_from i k (Some (k + length t.events)) s.before t.events t.more e there trace_at s.before_is refl in
        is_as same (goes_on end (there ∙ ap (λ (es : List Event). Some (k + length es)) (sym same))
        (memory_at (suc i) (k + length t.events) there ∙ ap cells_in (config_at (length t.events) (k + length t.events) refl ∙ config)
        ∙ ap (λ (c : Config). c.cells) (standing_is a input t.then_cells))
        (config_at (length t.events) (k + length (iteration run r i)) (ap (λ (es : List Event). k + length es) same) ∙ config)
        (ap closes_of same ∙ yet)
        (omega (arith, within, ap length same)))
    by_outcome (closed end next leaving last config within) =
        let stop = stop_at last in
        let same = iteration_from i k None s.before t.events t.more e (s.next ∙ next k) trace_at s.before_is stop in
        is_as same (closes end (s.next ∙ next k) (ap closes_of same ∙ leaving) (stop ∙ ap (λ (es : List Event). k + length es) (sym same))
        (config_at (length t.events) (k + length (iteration run r i)) (ap (λ (es : List Event). k + length es) same) ∙ config)
        (omega (arith, within, ap length same)))
    by_outcome (broken x rest after next none yet last why ends) =
        let rest_is : t.events ++ t.more ≡ t.events = ap (λ (es : List Event). t.events ++ es) none ∙ append-nil t.events in
        let gone = s.next ∙ next k in
        let same = iteration_from i k None s.before t.events t.more e gone trace_at s.before_is (stop_at (ap last_events rest_is ∙ last)) in
        is_as same (breaks x rest after (ap (λ (o : Option ℕ). is_some o || is_closing run r i) gone ∙ ap closes_of same ∙ yet) (later same why)
        (stops_later same x why ends))
      where
        later : {P : Type 0} → iteration run r i ≡ t.events → (s.left ≡ length t.events) ⊎ P → (s.left ≡ length (iteration run r i)) ⊎ P
        later same (inl l) = inl (l ∙ ap length (sym same))
        later same (inr l) = inr l

        stops_later : (same : iteration run r i ≡ t.events) (x : Stmt) (why : (s.left ≡ length t.events) ⊎ ((kind : FaultKind)
            × (evaluated p input t.then_cells (out-Stmt x) ≡ Err kind))) →
            StopsSo p input x t.then_cells (length t.events < s.left) (at s.left s.cells).end why →
            StopsSo p input x t.then_cells (length (iteration run r i) < s.left) run.end (later same why)
        stops_later same x (inl l) ends = s.end_is ∙ ends
        stops_later same x (inr l) ends = (let within = ends.0 in omega (arith, within, ap length same), s.end_is ∙ ends.1)

  -- Each iteration that starts is a piece of the source's steps.
  pub iteration_is : (i k : ℕ) → start run plan.region i ≡ Some k → IterationIs i k
  iteration_is i k e = let s = found_at i k e in let t = turned a input s.left s.cells in by_outcome i k e s t t.outcome
