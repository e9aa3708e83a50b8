-- A run from within a region: the region's events, and where its last iteration stops.
use Rattle.std.proofs.Common.{◌≡◌, refl, sym, ap, ◌∙◌, ℕ, zero, suc, Bool, true, false, cond, if◌then◌else◌, List, [], ◌∷◌, ◌++◌, ℤ, length, filter, Some, None}
use Rattle.std.proofs.Common.{slice_get, eq-eqb, inl, inr, ◌+◌, take, drop, arith}
use Rattle.dp_base.specs.Arithmetic.{is_zero}
use Rattle.dp_tree.specs.declared.Stmt.{Stmt, out-Stmt, out-roll-Stmt}
use Rattle.dp_tree.specs.declared.Stmt.TheViews.{rolls-Region}
use Rattle.dp_tree.specs.declared.Stmt.TheVariants as tree
use Rattle.dp_tree.specs.declared.Stmt.TheOpen.{Stmt-F, Region}
use Rattle.dp_tree.specs.declared.Program.{Program}
use Rattle.dp_tree.specs.Event.{Event, value_of}
use Rattle.dp_tree.specs.Step.{Config, Step, Stepped, followed, behind_region, behind_one, region_number, site_of, step}
use Rattle.dp_tree.specs.Trace.{Run, run_of, run_by, ended, extended}
use Rattle.dp_base.specs.declared.End.{End}
use Rattle.std.proofs.lemmas.Bool.{cases_Bool, not-true}
use Rattle.dp_tree.specs.Numbering.{is_inner}
use Rattle.dp_tree.specs.Iteration.{is_region, begins_with, stands_at_head, places, decided_zero, leaves, upto_leaving, last_events, stop_from}
use Rattle.dp_tree.specs.RegionLaws.{is_site_of, is_other_site, keeps, StandsOnce, is_event_of}
use Rattle.dp_tree.proofs.Heads.{and_true, keeps_all, keeps_at, keeps_out, keeps_followed, no_region, followed-append, taken, taken_left, stepped, not_stepped}
use Rattle.dp_tree.proofs.Inner.{inner_all, inner_out, inner_left, inner_followed}
use Rattle.dp_tree.proofs.Places.{place_down, no_place_down, empty_list}

module _ (p : Program) (input : List ℤ) (r : ℕ) (once : StandsOnce p r) where
  abbrev pub mine : ℕ → Bool
  mine = is_site_of p r

  abbrev pub others : ℕ → Bool
  others = is_other_site p r

  abbrev pub only : List Event → List Event
  only events = filter (is_event_of p r) events

  abbrev pub here : Config → Bool
  here = stands_at_head r

  abbrev pub region : Stmt
  region = tree.Region r once.site once.cond once.body

  kept : (event : Event) (events : List Event) → mine event.site ≡ true → only (event ∷ events) ≡ event ∷ only events
  kept event events e = ap (λ (b : Bool). cond b (event ∷ only events) (only events)) e

  pub left_out : (event : Event) (events : List Event) → others event.site ≡ true → only (event ∷ events) ≡ only events
  left_out event events e = ap (λ (b : Bool). cond b (event ∷ only events) (only events)) (not-true (mine event.site) e)

  -- the region neither stands at the head from here on nor has an event
  pub record Quiet (run : Run) : Type 0 where
    pub none : only run.trace ≡ []
    pub no_start : (k : ℕ) → places here k run.configs ≡ []

  -- where nothing at the head is the region
  pub away : (c : Config) (xs : List Stmt) → c.to_do ≡ xs → keeps_all others r xs ≡ true → here c ≡ false
  away c [] e h = ap (begins_with r) e
  away c (x ∷ xs) e h =
      ap (begins_with r) e ∙ no_region others r (out-Stmt x) (sym (keeps_out others r x) ∙ (and_true (keeps others r x) (keeps_all others r xs) h).0)

  pub skip : (c : Config) (k : ℕ) (configs : List Config) → here c ≡ false → places here k (c ∷ configs) ≡ places here (suc k) configs
  skip c k configs e = ap (λ (b : Bool). if b then k ∷ places here (suc k) configs else places here (suc k) configs) e

  pub meet : (c : Config) (k : ℕ) (configs : List Config) → here c ≡ true → places here k (c ∷ configs) ≡ k ∷ places here (suc k) configs
  meet c k configs e = ap (λ (b : Bool). if b then k ∷ places here (suc k) configs else places here (suc k) configs) e

  -- behind the region
  quiet_by : (n : ℕ) (c : Config) (xs : List Stmt) (go : (d : Config) → keeps_all others r d.to_do ≡ true → Quiet (run_of p input n d)) (s : Step) →
      step p input c ≡ s → c.to_do ≡ xs → keeps_all others r xs ≡ true → Quiet (run_by (run_of p input n) (suc n) c s)
  quiet_by n c [] go (Stepped event next) e todo h = not_stepped p input c event next todo e
  quiet_by n c (x ∷ xs) go (Stepped event next) e todo h =
      let both = and_true (keeps others r x) (keeps_all others r xs) h in
      let head : keeps_at others r (out-Stmt x) ≡ true = sym (keeps_out others r x) ∙ both.0 in
      let st = stepped p input c x xs event next todo e in
      let rest : keeps_all others r next.to_do ≡ true = ap (keeps_all others r) st.to_do ∙ keeps_followed others r x xs (out-Stmt x) (value_of event.effect)
      both.0 head both.1 in
      let q = go next rest in
      record {
        none = left_out event (run_of p input n next).trace (st.tested others r head) ∙ q.none;
        no_start = λ k. skip c k (run_of p input n next).configs (away c (x ∷ xs) todo h) ∙ q.no_start (suc k);
      }
  quiet_by n c xs go _ e todo h = record { none = refl; no_start = λ k. skip c k [] (away c xs todo h) }

  pub quiet : (n : ℕ) (c : Config) → keeps_all others r c.to_do ≡ true → Quiet (run_of p input n c)
  unfolding run_of
  quiet zero c h = record { none = refl; no_start = λ k. skip c k [] (away c c.to_do refl h) }
  quiet (suc n) c h = quiet_by n c c.to_do (quiet n) (step p input c) refl refl h

  pub region_out : out-Stmt region ≡ Region r once.site once.cond once.body
  region_out = ap out-Stmt (sym (rolls-Region r once.site once.cond once.body)) ∙ out-roll-Stmt (Region r once.site once.cond once.body)

  pub at_region : (c : Config) (rest : List Stmt) → c.to_do ≡ region ∷ rest → here c ≡ true
  at_region c rest e = ap (begins_with r) e ∙ ap (is_region r) region_out ∙ eq-eqb r r refl

  -- in the region: its events come first, and its last iteration stops after them
  pub record Inside (run : Run) : Type 0 where
    pub own : List Event
    pub behind : List Event
    pub trace_is : run.trace ≡ own ++ behind
    pub all_own : only own ≡ own
    pub none_behind : only behind ≡ []
    pub stops : (i k : ℕ) → slice_get (places here 0 run.configs) i ≡ Some k → slice_get (places here 0 run.configs) (suc i) ≡ None →
        stop_from run k None ≡ length own
    pub open_yet : places here 0 run.configs ≡ [] → upto_leaving run.trace ≡ own

  stop_up : (fuel : ℕ) (c : Config) (event : Event) (run : Run) (j : ℕ) → stop_from (extended fuel c event run) (suc j) None ≡ suc (stop_from run j None)
  stop_up fuel c event run j = omega arith

  none_further : (configs : List Config) → slice_get (places here 1 configs) 0 ≡ None → places here 0 configs ≡ []
  none_further configs e = empty_list (places here 0 configs) (no_place_down here 0 configs 0 e)

  pub still_none : (configs : List Config) → places here 1 configs ≡ [] → places here 0 configs ≡ []
  still_none configs e = none_further configs (ap (λ (ns : List ℕ). slice_get ns 0) e)

  -- the last iteration of the rest, one step later
  pub later_stop : (fuel : ℕ) (c : Config) (event : Event) (run : Run) (size i k : ℕ) → ((j m : ℕ) → slice_get (places here 0 run.configs) j ≡ Some m →
      slice_get (places here 0 run.configs) (suc j) ≡ None → stop_from run m None ≡ size) →
      slice_get (places here 1 run.configs) i ≡ Some k → slice_get (places here 1 run.configs) (suc i) ≡ None →
      stop_from (extended fuel c event run) k None ≡ suc size
  later_stop fuel c event run size i k stops e f =
      let down = place_down here 0 run.configs i k e in
      ap (λ (n : ℕ). stop_from (extended fuel c event run) n None) down.2 ∙ stop_up fuel c event run down.0
      ∙ ap (λ (n : ℕ). suc n) (stops i down.0 down.1 (no_place_down here 0 run.configs (suc i) f))

  stays_inside : (fuel : ℕ) (c : Config) (end : End) → Inside (ended fuel c end)
  stays_inside fuel c end = record {
    own = [];
    behind = [];
    trace_is = refl;
    all_own = refl;
    none_behind = refl;
    stops = λ i k e f. by (here c) i k e;
    open_yet = λ e. refl;
  }
    where
      by : (b : Bool) (i k : ℕ) → slice_get (if b then 0 ∷ [] else []) i ≡ Some k → k + length (last_events (drop k [])) ≡ 0
      by true zero k e = let same : 0 ≡ k = cc in ap (λ (n : ℕ). n + length (last_events (drop n []))) (sym same) ∙ omega arith
      by _ _ k e = absurd (cc)

  -- where an event doesn't leave, the events up to the leaving one are it and those of the rest
  goes_further : (event : Event) (events : List Event) → leaves event.effect ≡ false → upto_leaving (event ∷ events) ≡ event ∷ upto_leaving events
  goes_further event events stays = ap (λ (b : Bool). event ∷ (if b then [] else upto_leaving events)) stays

  -- a break that is taken
  leaves_inside : (fuel : ℕ) (c : Config) (event : Event) (run : Run) → mine event.site ≡ true → here c ≡ false → leaves event.effect ≡ true → Quiet run →
      Inside (extended fuel c event run)
  leaves_inside fuel c event run is off out q = record {
    own = event ∷ [];
    behind = run.trace;
    trace_is = refl;
    all_own = kept event [] is;
    none_behind = q.none;
    stops = λ i k e f. let none : None ≡ Some k = sym (ap (λ (ns : List ℕ). slice_get ns i) (skip c 0 run.configs off ∙ q.no_start 1)) ∙ e in absurd (cc none);
    open_yet = λ e. ap (λ (b : Bool). event ∷ (if b then [] else upto_leaving run.trace)) out;
  }

  -- an event of the body
  grows_inside : (fuel : ℕ) (c : Config) (event : Event) (run : Run) → mine event.site ≡ true → here c ≡ false → leaves event.effect ≡ false → Inside run →
      Inside (extended fuel c event run)
  grows_inside fuel c event run is off stays h = let off_places = skip c 0 run.configs off in record {
    own = event ∷ h.own;
    behind = h.behind;
    trace_is = ap (λ (es : List Event). event ∷ es) h.trace_is;
    all_own = kept event h.own is ∙ ap (λ (es : List Event). event ∷ es) h.all_own;
    none_behind = h.none_behind;
    stops = λ i k e f. later_stop fuel c event run (length h.own) i k h.stops (sym (ap (λ (ns : List ℕ). slice_get ns i) off_places) ∙ e)
        (sym (ap (λ (ns : List ℕ). slice_get ns (suc i)) off_places) ∙ f);
    open_yet = λ e. goes_further event run.trace stays ∙ ap (λ (es : List Event). event ∷ es) (h.open_yet (still_none run.configs (sym off_places ∙ e)));
  }

  -- the condition of an iteration that goes on
  goes_round : (fuel : ℕ) (c : Config) (event : Event) (run : Run) → mine event.site ≡ true → here c ≡ true → decided_zero (Some event) ≡ false →
      leaves event.effect ≡ false → Inside run → Inside (extended fuel c event run)
  goes_round fuel c event run is on nonzero stays h = let on_places = meet c 0 run.configs on in record {
    own = event ∷ h.own;
    behind = h.behind;
    trace_is = ap (λ (es : List Event). event ∷ es) h.trace_is;
    all_own = kept event h.own is ∙ ap (λ (es : List Event). event ∷ es) h.all_own;
    none_behind = h.none_behind;
    stops = λ i k e f. stops i k (sym (ap (λ (ns : List ℕ). slice_get ns i) on_places) ∙ e) (sym (ap (λ (ns : List ℕ). slice_get ns (suc i)) on_places) ∙ f);
    open_yet = λ e. let clash : 0 ∷ places here 1 run.configs ≡ [] = sym on_places ∙ e in absurd (cc clash);
  }
    where
      stops : (i k : ℕ) → slice_get (0 ∷ places here 1 run.configs) i ≡ Some k → slice_get (0 ∷ places here 1 run.configs) (suc i) ≡ None →
          stop_from (extended fuel c event run) k None ≡ suc (length h.own)
      stops zero k e f =
          let same : 0 ≡ k = cc in
          ap (λ (n : ℕ). stop_from (extended fuel c event run) n None) (sym same)
          ∙ ap (λ (b : Bool). 0 + length (if b then take 1 (event ∷ run.trace) else upto_leaving (event ∷ run.trace))) nonzero
          ∙ ap (λ (es : List Event). 0 + length es) (goes_further event run.trace stays
          ∙ ap (λ (es : List Event). event ∷ es) (h.open_yet (none_further run.configs f))) ∙ omega arith
      stops (suc i) k e f = later_stop fuel c event run (length h.own) i k h.stops e f

  -- the condition of the closing iteration
  closes : (fuel : ℕ) (c : Config) (event : Event) (run : Run) → mine event.site ≡ true → here c ≡ true → decided_zero (Some event) ≡ true → Quiet run →
      Inside (extended fuel c event run)
  closes fuel c event run is on zero_is q = let on_places = meet c 0 run.configs on ∙ ap (λ (ns : List ℕ). 0 ∷ ns) (q.no_start 1) in record {
    own = event ∷ [];
    behind = run.trace;
    trace_is = refl;
    all_own = kept event [] is;
    none_behind = q.none;
    stops = λ i k e f. stops i k (sym (ap (λ (ns : List ℕ). slice_get ns i) on_places) ∙ e);
    open_yet = λ e. let clash : 0 ∷ [] ≡ [] = sym on_places ∙ e in absurd (cc clash);
  }
    where
      stops : (i k : ℕ) → slice_get (0 ∷ []) i ≡ Some k → stop_from (extended fuel c event run) k None ≡ 1
      stops zero k e =
          let same : 0 ≡ k = cc in
          ap (λ (n : ℕ). stop_from (extended fuel c event run) n None) (sym same)
          ∙ ap (λ (b : Bool). 0 + length (if b then take 1 (event ∷ run.trace) else upto_leaving (event ∷ run.trace))) zero_is ∙ omega arith
      stops (suc i) k e = absurd (cc)

  -- the step of the region's condition
  condition_by : (n : ℕ) (c next : Config) (event : Event)
      (go : (d : Config) (ys : List Stmt) → d.to_do ≡ ys ++ region ∷ once.behind → keeps_all mine r ys ≡ true → inner_all ys ≡ true → Inside (run_of p input n
      d)) →
      mine event.site ≡ true → here c ≡ true → leaves event.effect ≡ false → (b : Bool) → decided_zero (Some event) ≡ b →
      next.to_do ≡ (if b then once.behind else once.body ++ region ∷ once.behind) → Inside (extended (suc n) c event (run_of p input n next))
  condition_by n c next event go is on stays true zero_is todo =
      closes (suc n) c event (run_of p input n next) is on zero_is (quiet n next (ap (keeps_all others r) todo ∙ once.later))
  condition_by n c next event go is on stays false zero_is todo =
      goes_round (suc n) c event (run_of p input n next) is on zero_is stays (go next once.body todo once.inside once.inner)

  inside_by : (n : ℕ) (c : Config) (xs : List Stmt)
      (go : (d : Config) (ys : List Stmt) → d.to_do ≡ ys ++ region ∷ once.behind → keeps_all mine r ys ≡ true → inner_all ys ≡ true → Inside (run_of p
      input n d)) (s : Step) →
      step p input c ≡ s → c.to_do ≡ xs ++ region ∷ once.behind → keeps_all mine r xs ≡ true → inner_all xs ≡ true →
      Inside (run_by (run_of p input n) (suc n) c s)
  inside_by n c [] go (Stepped event next) e todo h w =
      let st = stepped p input c region once.behind event next todo e in
      let is : mine event.site ≡ true = ap mine st.site ∙ ap (λ (u : Stmt-F Stmt). mine (site_of u).0) region_out ∙ once.condition in
      let region_here : is_region r (out-Stmt region) ≡ true = ap (is_region r) region_out ∙ eq-eqb r r refl in
      let zero_is : is_zero (value_of event.effect) ≡ decided_zero (Some event) = sym (st.zero r region_here) in
      condition_by n c next event go is (at_region c once.behind todo) (st.left ∙ ap (λ (u : Stmt-F Stmt). taken u (value_of event.effect)) region_out)
      (decided_zero (Some event)) refl
      (st.to_do ∙ ap (λ (u : Stmt-F Stmt). followed region once.behind u (value_of event.effect)) region_out
      ∙ ap (λ (b : Bool). if b then once.behind else once.body ++ region ∷ once.behind) zero_is)
  inside_by n c (x ∷ xs) go (Stepped event next) e todo h w =
      let both = and_true (keeps mine r x) (keeps_all mine r xs) h in
      let head : keeps_at mine r (out-Stmt x) ≡ true = sym (keeps_out mine r x) ∙ both.0 in
      let st = stepped p input c x (xs ++ region ∷ once.behind) event next todo e in
      let off : here c ≡ false = ap (begins_with r) todo ∙ no_region mine r (out-Stmt x) head in
      let plain = and_true (is_inner x) (inner_all xs) w in
      elim (cases_Bool (taken (out-Stmt x) (value_of event.effect))) [
        | inl t ↦
            let todo_next : next.to_do ≡ once.behind = st.to_do ∙ taken_left x (xs ++ region ∷ once.behind) (out-Stmt x) (value_of event.effect) t
            ∙ inner_left xs (region ∷ once.behind) plain.1
            ∙ ap (λ (u : Stmt-F Stmt). behind_one (region_number u) once.behind (behind_region once.behind)) region_out in
            leaves_inside (suc n) c event (run_of p input n next) (st.tested mine r head) off (st.left ∙ t)
            (quiet n next (ap (keeps_all others r) todo_next ∙ once.later))
        | inr t ↦
            let rest : next.to_do ≡ followed x xs (out-Stmt x) (value_of event.effect) ++ region ∷ once.behind = st.to_do
            ∙ followed-append x xs (region ∷ once.behind) (out-Stmt x) (value_of event.effect) t in
            grows_inside (suc n) c event (run_of p input n next) (st.tested mine r head) off (st.left ∙ t)
            (go next (followed x xs (out-Stmt x) (value_of event.effect)) rest
            (keeps_followed mine r x xs (out-Stmt x) (value_of event.effect) both.0 head both.1)
            (inner_followed x xs (out-Stmt x) (value_of event.effect) t plain.0 (sym (inner_out x) ∙ plain.0) plain.1))
      ]
  inside_by n c xs go _ e todo h w = stays_inside (suc n) c _

  pub inside : (n : ℕ) (c : Config) (xs : List Stmt) → c.to_do ≡ xs ++ region ∷ once.behind → keeps_all mine r xs ≡ true → inner_all xs ≡ true →
      Inside (run_of p input n c)
  unfolding run_of
  inside zero c xs e h w = stays_inside 0 c _
  inside (suc n) c xs e h w = inside_by n c xs (inside n) (step p input c) refl e h w
