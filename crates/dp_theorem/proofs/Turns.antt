-- One iteration from the region's condition on: to where the next one starts, to its closing, or to where the run ends in it.
use Rattle.dp_semantics.proofs.Names.{◌||◌, take, list_any, closes, is_leaving, leaves, last_events, upto_leaving, after_effect, cleared_leaving, region_number}
use Rattle.dp_semantics.proofs.Names.{sym, ◌≡◌, ◌⊎◌, inl, inr, refl, ap, ◌∙◌, subst, ℕ, zero, suc, ◌+◌, ◌<◌, ◌≤◌, Bool, true, false, if◌then◌else◌, List, []}
use Rattle.dp_semantics.proofs.Names.{◌∷◌, ◌++◌, ℤ, length, Option, Some, None, slice_get, Ok, Err, arith, eq-eqb, append-nil, is_zero, FaultKind, SiteId}
use Rattle.dp_semantics.proofs.Names.{site_of, Stmt, out-Stmt, outs-If, Stmt-F, If, Program, Plan, WithLoads, Evaluated, eval, Config, Event, Effect, Decided}
use Rattle.dp_semantics.proofs.Names.{Faulted, Stepped, choose, value_of, stored, decided, evaluated, standing, cleared_at, clear_locals, step, Run, run_of}
use Rattle.dp_semantics.proofs.Names.{extended, is_region, stands_at_head, places, decided_zero, cases_Bool}
use Rattle.dp_tree.specs.declared.Stmt.TheVariants as tree
use Rattle.dp_base.specs.declared.End.{End}
use Rattle.dp_base.specs.declared.End.TheVariants as run_end
use Rattle.dp_tree.specs.Step.{clear_one, line_of}
use Rattle.dp_semantics.proofs.Setting.{Accepted}
use Rattle.dp_theorem.proofs.Whole.{turn_of, clear-at, clear-still, Goes, stays, goes}
use Rattle.dp_theorem.proofs.Placed.{StopsSo, behind, region_left, never, is_step, run_step, run_first, first_place, step_on, step_off}
use Rattle.dp_theorem.proofs.Walks.{Ends, through, away, halted, Walk, walk}
use Rattle.dp_theorem.proofs.Stepping.{event_of}
use Rattle.dp_tree.proofs.Leaving.{upto_more}

pub decided_is : (u : Evaluated ℤ) (v : WithLoads Effect) → decided u ≡ Ok v → (z : ℤ) × (v.value ≡ Decided z)
decided_is (Ok w) v e = (w.value, cc)
decided_is (Err kind) v e = absurd (cc)

module _ {p : Program} {plan : Plan} (a : Accepted p plan) (input : List ℤ) where
  abbrev pub clear : List ℤ → List ℤ
  clear cells = clear_locals plan.region p.vars cells

  -- the run from the region's condition
  abbrev pub start_at : List ℤ → Config
  start_at cells = standing p (behind a) cells

  abbrev pub run_at : ℕ → List ℤ → Run
  run_at m cells = run_of p input m (start_at cells)

  -- where the next start is, if this one is at n
  abbrev pub next_start : ℕ → ℕ → List ℤ → Option ℕ
  next_start n m cells = slice_get (places (stands_at_head plan.region) n (run_at m cells).configs) 1

  -- how an iteration comes out: the next one starts, the region is left, or the run ends in it
  pub data Outcome (m : ℕ) (cells : List ℤ) (events : List Event) (after : List Stmt) (then_cells : List ℤ) (more : List Event) : Type 0 where
    onward : after ≡ [] → ((n : ℕ) → next_start n m cells ≡ Some (n + length events)) → slice_get (run_at m cells).configs (length events) ≡ Some
        (start_at then_cells) → closes events ≡ false → length events ≤ m → Outcome m cells events after then_cells more
    closed : after ≡ [] → ((n : ℕ) → next_start n m cells ≡ None) → closes events ≡ true → last_events (events ++ more) ≡ events →
        slice_get (run_at m cells).configs (length events) ≡ Some (standing p a.tail (clear then_cells)) → length events ≤ m →
        Outcome m cells events after then_cells more
    broken : (x : Stmt) (rest : List Stmt) → after ≡ x ∷ rest → ((n : ℕ) → next_start n m cells ≡ None) → more ≡ [] → closes events ≡ false →
        last_events events ≡ events →
        (why : (m ≡ length events) ⊎ ((kind : FaultKind) × (evaluated p input then_cells (out-Stmt x) ≡ Err kind))) →
        StopsSo p input x then_cells (length events < m) (run_at m cells).end why → Outcome m cells events after then_cells more

  pub record Turned (m : ℕ) (cells : List ℤ) : Type 0 where
    pub events : List Event
    pub after : List Stmt
    pub then_cells : List ℤ
    pub more : List Event
    pub path : Goes p input (turn_of a) (clear cells) events after then_cells
    pub trace_is : (run_at m cells).trace ≡ events ++ more
    pub outcome : Outcome m cells events after then_cells more

  -- the condition's evaluation, and its event
  abbrev condition : List ℤ → Evaluated Effect
  condition cells = decided (eval p input (clear cells) a.cond)

  abbrev event_at : WithLoads Effect → Event
  event_at v = event_of (If a.site a.cond a.body []) v

  turn_goes : (cells : List ℤ) (v : WithLoads Effect) (z : ℤ) (events : List Event) (after : List Stmt) (then_cells : List ℤ) →
      decided (eval p input cells a.cond) ≡ Ok v → v.value ≡ Decided z →
      Goes p input (choose z a.body [] ++ []) cells events after then_cells → Goes p input (turn_of a) cells (event_at v ∷ events) after then_cells
  turn_goes cells v z events after then_cells e d path =
      let same = outs-If a.site a.cond a.body [] in
      subst (λ (h : Stmt-F Stmt). Goes p input (turn_of a) cells (event_of h v ∷ events) after then_cells) same (goes (rw same e) (rw (same, d) path))

  pub standing_is : (cells : List ℤ) → start_at cells ≡ record { to_do = behind a; cells = clear cells }
  standing_is cells = ap (λ (h : Stmt-F Stmt). record { to_do = behind a; cells = cleared_at p h cells }) a.is

  at_head : (cells : List ℤ) → stands_at_head plan.region (start_at cells) ≡ true
  at_head cells = ap (is_region plan.region) a.is ∙ eq-eqb plan.region plan.region refl

  -- a run from here has its first start here
  pub starts_first : (n : ℕ) (cells : List ℤ) (rest : List Config) → slice_get (places (stands_at_head plan.region) n (start_at cells ∷ rest)) 1 ≡ slice_get
      (places (stands_at_head plan.region) (suc n) rest) 0
  starts_first n cells rest = rw (at_head cells)

  pub starts_at_once : (n m : ℕ) (cells : List ℤ) → slice_get (places (stands_at_head plan.region) n (run_at m cells).configs) 0 ≡ Some n
  starts_at_once n m cells =
      first_place (stands_at_head plan.region) n (run_at m cells).configs (start_at cells) (run_first p input m (start_at cells)) (at_head cells)

  is_call_free : is_step (out-Stmt a.statement) ≡ true
  is_call_free = ap is_step a.is

  -- the run ends at the condition
  broken_first : (m : ℕ) (cells : List ℤ) → (run_at m cells).trace ≡ [] → (run_at m cells).configs ≡ start_at cells ∷ [] →
      (why : (m ≡ 0) ⊎ ((kind : FaultKind) × (evaluated p input (clear cells) (out-Stmt (tree.If a.site a.cond a.body [])) ≡ Err kind))) →
      StopsSo p input (tree.If a.site a.cond a.body []) (clear cells) (0 < m) (run_at m cells).end why → Turned m cells
  broken_first m cells t c why ends = record {
    events = [];
    after = turn_of a;
    then_cells = clear cells;
    more = [];
    path = stays;
    trace_is = t;
    outcome = broken (tree.If a.site a.cond a.body []) [] refl (λ n. ap (λ (cs : List Config). slice_get (places (stands_at_head plan.region) n cs) 1) c
        ∙ starts_first n cells []) refl refl refl why ends;
  }

  none_run : (cells : List ℤ) → Turned 0 cells
  unfolding run_of
  none_run cells = broken_first 0 cells refl refl (inl refl) refl

  module _ (m : ℕ) (cells : List ℤ) (v : WithLoads Effect) (z : ℤ) (e : condition cells ≡ Ok v) (d : v.value ≡ Decided z) where
    -- the run after the condition
    abbrev rest_from : List Stmt → Run
    rest_from to_do = run_of p input m (standing p to_do (clear cells))

    whole : run_at (suc m) cells ≡ extended (suc m) (start_at cells) (event_at v) (rest_from (choose z (a.body ++ behind a) a.tail))
    whole = run_step p input m (start_at cells) (Stepped (event_at v) (standing p (choose z (a.body ++ behind a) a.tail) (clear cells)))
        (ap (step p input) (standing_is cells) ∙ step_on p input a.statement a.tail (clear cells) v is_call_free (ap (evaluated p input (clear cells)) a.is ∙ e)
        ∙ ap (λ (h : Stmt-F Stmt). Stepped (event_of h v) (after_effect p a.statement a.tail (clear cells) h v.value)) a.is
        ∙ ap (λ (f : Effect). Stepped (event_at v) (standing p (choose (value_of f) (a.body ++ behind a) a.tail) (stored f (clear cells)))) d)

    trace_whole : (run_at (suc m) cells).trace ≡ event_at v ∷ (rest_from (choose z (a.body ++ behind a) a.tail)).trace
    trace_whole = ap (λ (run : Run). run.trace) whole

    next_whole : (n : ℕ) →
        next_start n (suc m) cells ≡ slice_get (places (stands_at_head plan.region) (suc n) (rest_from (choose z (a.body ++ behind a) a.tail)).configs) 0
    next_whole n = ap (λ (run : Run). slice_get (places (stands_at_head plan.region) n run.configs) 1) whole
        ∙ starts_first n cells (rest_from (choose z (a.body ++ behind a) a.tail)).configs

    zero_is : (b : Bool) → is_zero z ≡ b → decided_zero (Some (event_at v)) ≡ b
    zero_is b q = ap (λ (f : Effect). decided_zero (Some (record { site = a.site.0; loads = v.loads; effect = f }))) d ∙ q

    -- the condition leaves nothing by itself
    stays_first : leaves v.value ≡ false
    stays_first = ap leaves d

    -- no store is made, and the locals are cleared already
    cleared_twice : clear (clear cells) ≡ clear cells
    cleared_twice = clear-still plan.region p.vars (clear cells) (λ c local. clear-at plan.region c p.vars cells (inl local))

    closing_here : is_zero z ≡ true → Turned (suc m) cells
    closing_here q = record {
      events = event_at v ∷ [];
      after = [];
      then_cells = clear cells;
      more = (rest_from (choose z (a.body ++ behind a) a.tail)).trace;
      path = turn_goes (clear cells) v z [] [] (clear cells) e d (rw q stays);
      trace_is = trace_whole;
      outcome = closed refl (λ n. next_whole n
          ∙ ap (λ (b : Bool). slice_get (places (stands_at_head plan.region) (suc n) (rest_from (if b then a.tail else a.body ++ behind a)).configs) 0) q
          ∙ ap (λ (ks : List ℕ). slice_get ks 0) (never p input plan.region m (suc n) a.tail (clear cells) a.tail_free))
          (ap (λ (b : Bool). b || (leaves v.value || false)) (zero_is true q))
          (ap (λ (b : Bool). if b then take 1 (event_at v ∷ (rest_from (choose z (a.body ++ behind a) a.tail)).trace)
          else upto_leaving (event_at v ∷ (rest_from (choose z (a.body ++ behind a) a.tail)).trace)) (zero_is true q))
          (ap (λ (run : Run). slice_get run.configs 1) whole ∙ ap (λ (b : Bool). slice_get (rest_from (if b then a.tail else a.body ++ behind a)).configs 0) q
          ∙ run_first p input m (standing p a.tail (clear cells))
          ∙ ap (λ (held : List ℤ). Some (standing p a.tail held)) (sym cleared_twice)) (omega arith);
    }

    -- after the condition that wasn't 0 those of the body follow
    last_of : (es : List Event) → is_zero z ≡ false → last_events (event_at v ∷ es) ≡ event_at v ∷ upto_leaving es
    last_of es q = ap (λ (b : Bool). if b then take 1 (event_at v ∷ es) else upto_leaving (event_at v ∷ es)) (zero_is false q)
        ∙ ap (λ (b : Bool). event_at v ∷ (if b then [] else upto_leaving es)) stays_first

    closes_as : (events : List Event) (b : Bool) → is_zero z ≡ false → list_any is_leaving events ≡ b → closes (event_at v ∷ events) ≡ b
    closes_as events b q h = ap (λ (u : Bool). u || (leaves v.value || list_any is_leaving events)) (zero_is false q)
        ∙ ap (λ (u : Bool). u || list_any is_leaving events) stays_first ∙ h

    goes_on : is_zero z ≡ false → Walk p plan input (behind a) m a.body (clear cells) → Turned (suc m) cells
    goes_on q w = record {
      events = event_at v ∷ w.events;
      after = w.after;
      then_cells = w.then_cells;
      more = (run_of p input w.left w.stands).trace;
      path = turn_goes (clear cells) v z w.events w.after w.then_cells e d (rw (q, append-nil a.body) w.path);
      trace_is = trace_whole ∙ ap (λ (es : List Event). event_at v ∷ es) (ap (λ (run : Run). run.trace) opened ∙ w.trace_is);
      outcome = by w.ending;
    }
      where
        opened : rest_from (choose z (a.body ++ behind a) a.tail) ≡ rest_from (a.body ++ behind a)
        opened = ap (λ (b : Bool). rest_from (if b then a.tail else a.body ++ behind a)) q

        next : (n : ℕ) → next_start n (suc m) cells ≡ slice_get (places (stands_at_head plan.region) (suc n + length w.events)
            (run_of p input w.left w.stands).configs) 0
        next n = next_whole n ∙ ap (λ (run : Run). slice_get (places (stands_at_head plan.region) (suc n) run.configs) 0) opened
            ∙ ap (λ (ks : List ℕ). slice_get ks 0) (w.starts_are (suc n))

        config : slice_get (run_at (suc m) cells).configs (suc (length w.events)) ≡ Some w.stands
        config = ap (λ (run : Run). slice_get run.configs (suc (length w.events))) whole ∙ ap (λ (run : Run). slice_get run.configs (length w.events))
            opened ∙ w.config_is

        moved : (n : ℕ) → Some (suc n + length w.events) ≡ Some (n + suc (length w.events))
        moved n = let same : suc n + length w.events ≡ n + suc (length w.events) = omega arith in ap (λ (i : ℕ). Some i) same

        later : {P : Type 0} → (w.left ≡ 0) ⊎ P → (suc m ≡ suc (length w.events)) ⊎ P
        later (inl l) = inl (omega (arith, l, w.steps_are))
        later (inr l) = inr l

        stops_later : (x : Stmt) (held : List ℤ) {end there : End}
            (why : (w.left ≡ 0) ⊎ ((kind : FaultKind) × (evaluated p input held (out-Stmt x) ≡ Err kind))) → end ≡ there →
            StopsSo p input x held (0 < w.left) there why → StopsSo p input x held (suc (length w.events) < suc m) end (later why)
        stops_later x held (inl l) e s = e ∙ s
        stops_later x held (inr l) e s = (let some = s.0 in omega (arith, some, w.steps_are), e ∙ s.1)

        room : suc (length w.events) ≤ suc m
        room = omega (arith, w.steps_are)

        leaving_cells : cleared_leaving p (behind a) w.then_cells ≡ clear w.then_cells
        leaving_cells = ap (λ (h : Stmt-F Stmt). clear_one p (region_number h) w.then_cells (cleared_leaving p a.tail w.then_cells)) a.is

        by : Ends p plan input (behind a) w.left w.events w.after w.then_cells w.stands → Outcome (suc m) cells (event_at v ∷ w.events) w.after w.then_cells
            (run_of p input w.left w.stands).trace
        by (through end stands none) = onward end
            (λ n. next n ∙ ap (λ (c : Config). slice_get (places (stands_at_head plan.region) (suc n + length w.events) (run_of p input w.left c).configs) 0)
            stands ∙ starts_at_once (suc n + length w.events) w.left w.then_cells ∙ moved n)
            (config ∙ ap (λ (c : Config). Some c) stands) (closes_as w.events false q none) room
        by (away end stands some upto) =
            let there : w.stands ≡ standing p a.tail (clear w.then_cells) = stands
            ∙ ap (λ (to_do : List Stmt). standing p to_do (cleared_leaving p (behind a) w.then_cells)) (region_left a) ∙ ap (standing p a.tail) leaving_cells in
            closed end
            (λ n. next n ∙ ap (λ (c : Config). slice_get (places (stands_at_head plan.region) (suc n + length w.events) (run_of p input w.left c).configs) 0)
            there
            ∙ ap (λ (ks : List ℕ). slice_get ks 0) (never p input plan.region w.left (suc n + length w.events) a.tail (clear w.then_cells) a.tail_free))
            (closes_as w.events true q some) (last_of (w.events ++ (run_of p input w.left w.stands).trace) q
            ∙ ap (λ (es : List Event). event_at v ∷ es) (upto (run_of p input w.left w.stands).trace))
            (config ∙ ap (λ (c : Config). Some c) there) room
        by (halted s stands none) =
            let no_trace : (run_of p input w.left w.stands).trace ≡ [] = ap (λ (c : Config). (run_of p input w.left c).trace) stands ∙ s.no_trace in
            broken s.x s.rest s.after_is
            (λ n. next n ∙ ap (λ (c : Config). slice_get (places (stands_at_head plan.region) (suc n + length w.events) (run_of p input w.left c).configs) 0)
            stands ∙ ap (λ (ks : List ℕ). slice_get ks 0) (s.no_start (suc n + length w.events)))
            no_trace (closes_as w.events false q none)
            (last_of w.events q ∙ ap (λ (es : List Event). event_at v ∷ es) (ap upto_leaving (sym (append-nil w.events)) ∙ upto_more w.events [] none
            ∙ append-nil w.events)) (later s.why)
            (stops_later s.x w.then_cells s.why (ap (λ (run : Run). run.end) (whole ∙ ap (extended (suc m) (start_at cells) (event_at v)) opened) ∙ w.end_is
            ∙ ap (λ (c : Config). (run_of p input w.left c).end) stands) s.stops)

  by_value : (m : ℕ) (cells : List ℤ) (u : Evaluated Effect) → condition cells ≡ u → Turned (suc m) cells
  by_value m cells (Ok v) e = let d = decided_is (eval p input (clear cells) a.cond) v e in elim (cases_Bool (is_zero d.0)) [
    | inl q ↦ closing_here m cells v d.0 e d.1 q
    | inr q ↦ goes_on m cells v d.0 e d.1 q (walk p plan input (behind a) m a.body (clear cells) a.well)
  ]
  by_value m cells (Err kind) e =
      let fault = step_off p input a.statement a.tail (clear cells) kind is_call_free (ap (evaluated p input (clear cells)) a.is ∙ e) in
      let whole = run_step p input m (start_at cells) (Faulted _) (ap (step p input) (standing_is cells) ∙ fault) in
      let head = outs-If a.site a.cond a.body [] in
      broken_first (suc m) cells (ap (λ (run : Run). run.trace) whole) (ap (λ (run : Run). run.configs) whole)
      (inr (kind, ap (evaluated p input (clear cells)) head ∙ e)) (
        omega arith,
        ap (λ (run : Run). run.end) whole ∙ ap (λ (site : SiteId). run_end.Fault (record { kind = kind; line = line_of p site })) (ap site_of a.is
            ∙ sym (ap site_of head)),
      )

  -- A run from the region's condition goes through one iteration, or ends in it.
  pub turned : (m : ℕ) (cells : List ℤ) → Turned m cells
  turned zero cells = none_run cells
  turned (suc m) cells = by_value m cells (condition cells) refl
