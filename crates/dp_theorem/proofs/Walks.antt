-- A run through the text of one iteration: to its end, or to where it stops.
use Rattle.dp_semantics.proofs.Names.{Break, not, ◌||◌, Option, list_any, is_zero, is_leaving, leaves, upto_leaving, behind_region, cleared_leaving, stored_by}
use Rattle.dp_semantics.proofs.Names.{after_effect, taken, taken_left, subst, cases_Bool, ◌≡◌, ◌⊎◌, inl, inr, refl, sym, ap, ◌∙◌, ℕ, zero, suc, ◌+◌, ◌<◌, Bool}
use Rattle.dp_semantics.proofs.Names.{true, false, if◌then◌else◌, List, [], ◌∷◌, ◌++◌, ℤ, length, Some, slice_get, Ok, Err, arith, FaultKind, Stmt, out-Stmt}
use Rattle.dp_semantics.proofs.Names.{Stmt-F, Region, Call, Program, Plan, WithLoads, Evaluated, Config, Event, Effect, Faulted, Stepped, followed, value_of}
use Rattle.dp_semantics.proofs.Names.{stored, evaluated, standing, cleared_at, step, Run, run_of, extended, is_region, stands_at_head, places, well_nested}
use Rattle.dp_semantics.proofs.Names.{and_parts, followed-append}
use Rattle.dp_semantics.proofs.Setting.{all_well, well_at, well_out, followed_has, all_joins}
use Rattle.dp_theorem.proofs.Stepping.{event_of, well_parts}
use Rattle.dp_theorem.proofs.Whole.{Goes, stays, goes}
use Rattle.dp_tree.specs.Step.{clear_one}
use Rattle.dp_theorem.proofs.Projected.{well_number, well_left, well_left_to}
use Rattle.dp_theorem.proofs.Placed.{StopsSo, leaves_taken, is_step, run_step, step_on, step_off, run_first}

-- A well-nested statement is no call and no region.
well_step : (p : Program) (plan : Plan) (h : Stmt-F Stmt) → well_at p plan h ≡ true → is_step h ≡ true
well_step p plan (Call f line args) w = absurd (cc)
well_step p plan _ w = refl

well_no_region : (p : Program) (plan : Plan) (r : ℕ) (h : Stmt-F Stmt) → well_at p plan h ≡ true → is_region r h ≡ false
well_no_region p plan r (Region q site cond a) w = absurd (cc)
well_no_region p plan r _ w = refl

well_kept : (p : Program) (plan : Plan) (cells : List ℤ) (h : Stmt-F Stmt) → well_at p plan h ≡ true → cleared_at p h cells ≡ cells
well_kept p plan cells (Region q site cond a) w = absurd (cc)
well_kept p plan cells _ w = refl

module _ (p : Program) (plan : Plan) (input : List ℤ) (rest_of_run : List Stmt) where
  abbrev r : ℕ
  r = plan.region

  -- the run where these statements are to do, and the rest of it
  abbrev run_at : ℕ → List Stmt → List ℤ → Run
  run_at m to_do cells = run_of p input m (standing p (to_do ++ rest_of_run) cells)

  -- the fuel is spent or the next evaluation faults, and the run ends here
  pub record Stuck (left : ℕ) (after : List Stmt) (cells : List ℤ) : Type 0 where
    pub x : Stmt
    pub rest : List Stmt
    pub after_is : after ≡ x ∷ rest
    pub why : (left ≡ 0) ⊎ ((kind : FaultKind) × (evaluated p input cells (out-Stmt x) ≡ Err kind))
    pub no_trace : (run_at left after cells).trace ≡ []
    pub no_start : (n : ℕ) → places (stands_at_head r) n (run_at left after cells).configs ≡ []
    pub stops : StopsSo p input x cells (0 < left) (run_at left after cells).end why

  -- where the run stands then: behind the statements, behind the region that it left, or before it ends
  pub data Ends (left : ℕ) (events : List Event) (after : List Stmt) (cells : List ℤ) (stands : Config) : Type 0 where
    through : after ≡ [] → stands ≡ standing p rest_of_run cells → list_any is_leaving events ≡ false → Ends left events after cells stands
    away : after ≡ [] → stands ≡ standing p (behind_region rest_of_run) (cleared_leaving p rest_of_run cells) → list_any is_leaving events ≡ true →
        ((more : List Event) → upto_leaving (events ++ more) ≡ events) → Ends left events after cells stands
    halted : Stuck left after cells → stands ≡ standing p (after ++ rest_of_run) cells → list_any is_leaving events ≡ false →
        Ends left events after cells stands

  -- the source's steps through the statements, as far as they go, with no start of the region on the way
  pub record Walk (m : ℕ) (to_do : List Stmt) (cells : List ℤ) : Type 0 where
    pub events : List Event
    pub after : List Stmt
    pub then_cells : List ℤ
    pub left : ℕ
    pub stands : Config
    pub path : Goes p input to_do cells events after then_cells
    pub steps_are : m ≡ length events + left
    pub trace_is : (run_at m to_do cells).trace ≡ events ++ (run_of p input left stands).trace
    pub config_is : slice_get (run_at m to_do cells).configs (length events) ≡ Some stands
    pub starts_are : (n : ℕ) → places (stands_at_head r) n (run_at m to_do cells).configs ≡ places (stands_at_head r) (n + length events)
        (run_of p input left stands).configs
    pub end_is : (run_at m to_do cells).end ≡ (run_of p input left stands).end
    pub ending : Ends left events after then_cells stands

  here : (m : ℕ) (to_do : List Stmt) (cells : List ℤ) → Ends m [] to_do cells (standing p (to_do ++ rest_of_run) cells) → Walk m to_do cells
  here m to_do cells ending = record {
    events = [];
    after = to_do;
    then_cells = cells;
    left = m;
    stands = standing p (to_do ++ rest_of_run) cells;
    path = stays;
    steps_are = omega arith;
    trace_is = refl;
    config_is = run_first p input m (standing p (to_do ++ rest_of_run) cells);
    starts_are = λ n. let same : n ≡ n + 0 = omega arith in ap (λ (i : ℕ). places (stands_at_head r) i (run_at m to_do cells).configs) same;
    end_is = refl;
    ending = ending;
  }

  -- an event before these that doesn't leave
  ends_later : {left : ℕ} {events : List Event} {after : List Stmt} {cells : List ℤ} {stands : Config} (event : Event) → leaves event.effect ≡ false →
      Ends left events after cells stands → Ends left (event ∷ events) after cells stands
  ends_later {events = events} event stay (through e s none) = through e s (ap (λ (b : Bool). b || list_any is_leaving events) stay ∙ none)
  ends_later {events = events} event stay (away e s some upto) =
      away e s (ap (λ (b : Bool). b || list_any is_leaving events) stay ∙ some)
      (λ more. ap (λ (b : Bool). event ∷ (if b then [] else upto_leaving (events ++ more))) stay ∙ ap (λ (es : List Event). event ∷ es) (upto more))
  ends_later {events = events} event stay (halted q s none) = halted q s (ap (λ (b : Bool). b || list_any is_leaving events) stay ∙ none)

  -- well-nested statements have no region's locals to clear
  well_cleared : (xs behind : List Stmt) (cells : List ℤ) → all_well p plan xs ≡ true → cleared_leaving p (xs ++ behind) cells ≡ cleared_leaving p behind cells
  well_cleared [] behind cells w = refl
  well_cleared (x ∷ xs) behind cells w =
      let both = and_parts (well_nested p plan x) (all_well p plan xs) w in
      ap (λ (o : Option ℕ). clear_one p o cells (cleared_leaving p (xs ++ behind) cells)) (well_number p plan (out-Stmt x) (sym (well_out p plan x) ∙ both.0))
      ∙ well_cleared xs behind cells both.1

  stored_kept : (rest : List Stmt) (h : Stmt-F Stmt) (effect : Effect) (cells : List ℤ) → taken h (value_of effect) ≡ false →
      stored_by p rest h effect cells ≡ stored effect cells
  stored_kept rest (Break site cond) effect cells t = by (is_zero (value_of effect)) t
    where
      by : (b : Bool) → not b ≡ false → (if b then stored effect cells else cleared_leaving p rest (stored effect cells)) ≡ stored effect cells
      by true t = refl
      by false t = absurd (cc)
  stored_kept rest _ effect cells t = refl

  stored_left : (rest : List Stmt) (h : Stmt-F Stmt) (effect : Effect) (cells : List ℤ) → taken h (value_of effect) ≡ true →
      stored_by p rest h effect cells ≡ cleared_leaving p rest (stored effect cells)
  stored_left rest (Break site cond) effect cells t = by (is_zero (value_of effect)) t
    where
      by : (b : Bool) → not b ≡ true → (if b then stored effect cells else cleared_leaving p rest (stored effect cells)) ≡ cleared_leaving p rest
          (stored effect cells)
      by true t = absurd (cc)
      by false t = refl
  stored_left rest _ effect cells t = absurd (cc)

  module _ (x : Stmt) (rest : List Stmt) (cells : List ℤ) (head : well_at p plan (out-Stmt x) ≡ true) where
    abbrev c : Config
    c = standing p (x ∷ (rest ++ rest_of_run)) cells

    off : stands_at_head r c ≡ false
    off = well_no_region p plan r (out-Stmt x) head

    kept : c ≡ record { to_do = x ∷ (rest ++ rest_of_run); cells = cells }
    kept = ap (λ (held : List ℤ). record { to_do = x ∷ (rest ++ rest_of_run); cells = held }) (well_kept p plan cells (out-Stmt x) head)

    skipped : (n : ℕ) (cs : List Config) → places (stands_at_head r) n (c ∷ cs) ≡ places (stands_at_head r) (suc n) cs
    skipped n cs = ap (λ (b : Bool). if b then n ∷ places (stands_at_head r) (suc n) cs else places (stands_at_head r) (suc n) cs) off

    spent : Walk 0 (x ∷ rest) cells
    unfolding run_of
    spent = here 0 (x ∷ rest) cells
        (halted (record { x = x; rest = rest; after_is = refl; why = inl refl; no_trace = refl; no_start = λ n. skipped n []; stops = refl }) refl refl)

    faulted : (m : ℕ) (kind : FaultKind) → evaluated p input cells (out-Stmt x) ≡ Err kind → Walk (suc m) (x ∷ rest) cells
    faulted m kind e =
        let fault = step_off p input x (rest ++ rest_of_run) cells kind (well_step p plan (out-Stmt x) head) e in
        let whole = run_step p input m c (Faulted _) (ap (step p input) kept ∙ fault) in
        here (suc m) (x ∷ rest) cells (halted (record {
          x = x;
          rest = rest;
          after_is = refl;
          why = inr (kind, e);
          no_trace = ap (λ (run : Run). run.trace) whole;
          no_start = λ n. ap (λ (run : Run). places (stands_at_head r) n run.configs) whole ∙ skipped n [];
          stops = (omega arith, ap (λ (run : Run). run.end) whole);
        }) refl refl)

    -- the run's first step
    first_step : (m : ℕ) (v : WithLoads Effect) → evaluated p input cells (out-Stmt x) ≡ Ok v → (next : Config) →
        after_effect p x (rest ++ rest_of_run) cells (out-Stmt x) v.value ≡ next →
        run_of p input (suc m) c ≡ extended (suc m) c (event_of (out-Stmt x) v) (run_of p input m next)
    first_step m v e next is = run_step p input m c (Stepped (event_of (out-Stmt x) v) next)
        (ap (step p input) kept ∙ step_on p input x (rest ++ rest_of_run) cells v (well_step p plan (out-Stmt x) head) e
        ∙ ap (λ (d : Config). Stepped (event_of (out-Stmt x) v) d) is)

    left_is : (v : WithLoads Effect) → evaluated p input cells (out-Stmt x) ≡ Ok v → leaves v.value ≡ taken (out-Stmt x) (value_of v.value)
    left_is v e = leaves_taken p input x rest cells v (well_step p plan (out-Stmt x) head) e

    stepped : (m : ℕ) (v : WithLoads Effect) → evaluated p input cells (out-Stmt x) ≡ Ok v → taken (out-Stmt x) (value_of v.value) ≡ false →
        Walk m (followed x rest (out-Stmt x) (value_of v.value)) (stored v.value cells) → Walk (suc m) (x ∷ rest) cells
    stepped m v e t w = record {
      events = event_of (out-Stmt x) v ∷ w.events;
      after = w.after;
      then_cells = w.then_cells;
      left = w.left;
      stands = w.stands;
      path = goes e w.path;
      steps_are = omega (arith, w.steps_are);
      trace_is = ap (λ (run : Run). run.trace) whole ∙ ap (λ (es : List Event). event_of (out-Stmt x) v ∷ es) w.trace_is;
      config_is = ap (λ (run : Run). slice_get run.configs (suc (length w.events))) whole ∙ w.config_is;
      starts_are = λ n. ap (λ (run : Run). places (stands_at_head r) n run.configs) whole
          ∙ skipped n (run_at m (followed x rest (out-Stmt x) (value_of v.value)) (stored v.value cells)).configs ∙ w.starts_are (suc n) ∙ further n;
      end_is = ap (λ (run : Run). run.end) whole ∙ w.end_is;
      ending = ends_later (event_of (out-Stmt x) v) (left_is v e ∙ t) w.ending;
    }
      where
        whole : run_of p input (suc m) c ≡ extended (suc m) c (event_of (out-Stmt x) v) (run_at m (followed x rest (out-Stmt x) (value_of v.value))
            (stored v.value cells))
        whole = first_step m v e (standing p (followed x rest (out-Stmt x) (value_of v.value) ++ rest_of_run) (stored v.value cells))
            (ap (λ (next : List Stmt). standing p next (stored_by p (rest ++ rest_of_run) (out-Stmt x) v.value cells))
            (followed-append x rest rest_of_run (out-Stmt x) (value_of v.value) t)
            ∙ ap (standing p (followed x rest (out-Stmt x) (value_of v.value) ++ rest_of_run)) (stored_kept (rest ++ rest_of_run) (out-Stmt x) v.value cells t))

        further : (n : ℕ) → places (stands_at_head r) (suc n + length w.events) (run_of p input w.left w.stands).configs ≡ places (stands_at_head r)
            (n + suc (length w.events)) (run_of p input w.left w.stands).configs
        further n = let same : suc n + length w.events ≡ n + suc (length w.events) = omega arith in
            ap (λ (i : ℕ). places (stands_at_head r) i (run_of p input w.left w.stands).configs) same

    -- a break that is taken
    goes_away : all_well p plan rest ≡ true → (m : ℕ) (v : WithLoads Effect) → evaluated p input cells (out-Stmt x) ≡ Ok v →
        taken (out-Stmt x) (value_of v.value) ≡ true → Walk (suc m) (x ∷ rest) cells
    goes_away well m v e t = record {
      events = event_of (out-Stmt x) v ∷ [];
      after = [];
      then_cells = stored v.value cells;
      left = m;
      stands = there;
      path = goes e (subst (λ (ys : List Stmt). Goes p input ys (stored v.value cells) [] [] (stored v.value cells))
          (sym (taken_left x rest (out-Stmt x) (value_of v.value) t ∙ well_left p plan rest well)) stays);
      steps_are = omega arith;
      trace_is = ap (λ (run : Run). run.trace) whole;
      config_is = ap (λ (run : Run). slice_get run.configs 1) whole ∙ run_first p input m there;
      starts_are = λ n. ap (λ (run : Run). places (stands_at_head r) n run.configs) whole ∙ skipped n (run_of p input m there).configs ∙ further n;
      end_is = ap (λ (run : Run). run.end) whole;
      ending = away refl refl (ap (λ (b : Bool). b || false) leaving)
          (λ more. ap (λ (b : Bool). event_of (out-Stmt x) v ∷ (if b then [] else upto_leaving more)) leaving);
    }
      where
        there : Config
        there = standing p (behind_region rest_of_run) (cleared_leaving p rest_of_run (stored v.value cells))

        leaving : leaves v.value ≡ true
        leaving = left_is v e ∙ t

        whole : run_of p input (suc m) c ≡ extended (suc m) c (event_of (out-Stmt x) v)
            (run_of p input m (standing p (behind_region rest_of_run) (cleared_leaving p rest_of_run (stored v.value cells))))
        whole = first_step m v e (standing p (behind_region rest_of_run) (cleared_leaving p rest_of_run (stored v.value cells)))
            (ap (λ (next : List Stmt). standing p next (stored_by p (rest ++ rest_of_run) (out-Stmt x) v.value cells))
            (taken_left x (rest ++ rest_of_run) (out-Stmt x) (value_of v.value) t ∙ well_left_to p plan rest rest_of_run well)
            ∙ ap (standing p (behind_region rest_of_run)) (stored_left (rest ++ rest_of_run) (out-Stmt x) v.value cells t
            ∙ well_cleared rest rest_of_run (stored v.value cells) well))

        further : (n : ℕ) → places (stands_at_head r) (suc n) (run_of p input m there).configs ≡ places (stands_at_head r) (n + 1)
            (run_of p input m there).configs
        further n = let same : suc n ≡ n + 1 = omega arith in ap (λ (i : ℕ). places (stands_at_head r) i (run_of p input m there).configs) same

  -- The run goes through well-nested statements to their end, or it ends within.
  pub walk : (m : ℕ) (to_do : List Stmt) (cells : List ℤ) → all_well p plan to_do ≡ true → Walk m to_do cells
  walk m [] cells w = here m [] cells (through refl refl refl)
  walk zero (x ∷ rest) cells w = spent x rest cells (sym (well_out p plan x) ∙ (and_parts (well_nested p plan x) (all_well p plan rest) w).0)
  walk (suc m) (x ∷ rest) cells w =
      by (evaluated p input cells (out-Stmt x)) refl (λ v. walk m (followed x rest (out-Stmt x) (value_of v.value)) (stored v.value cells) (onward v))
    where
      parts : (well_nested p plan x ≡ true) × (all_well p plan rest ≡ true)
      parts = and_parts (well_nested p plan x) (all_well p plan rest) w

      head : well_at p plan (out-Stmt x) ≡ true
      head = sym (well_out p plan x) ∙ parts.0

      onward : (v : WithLoads Effect) → all_well p plan (followed x rest (out-Stmt x) (value_of v.value)) ≡ true
      onward v = followed_has (λ xs. all_well p plan xs ≡ true) (all_joins (well_nested p plan)) x rest (out-Stmt x) (value_of v.value) w parts.1
          (well_parts p plan (out-Stmt x) head)

      by : (u : Evaluated Effect) → evaluated p input cells (out-Stmt x) ≡ u →
          ((v : WithLoads Effect) → Walk m (followed x rest (out-Stmt x) (value_of v.value)) (stored v.value cells)) → Walk (suc m) (x ∷ rest) cells
      by (Ok v) e go = elim (cases_Bool (taken (out-Stmt x) (value_of v.value))) [
        | inl t ↦ goes_away x rest cells head parts.1 m v e t
        | inr t ↦
            stepped x rest cells head m v e t (go v)
      ]
      by (Err kind) e go = faulted x rest cells head m kind e
