-- A variable that one statement at the top of the body moves: what it holds at each event of an iteration.
use Rattle.dp_semantics.proofs.Names.{◌≡◌, inl, inr, refl, sym, ap, ◌∙◌, subst, ℕ, ◌+◌, ◌<◌, Bool, true, false, ◌||◌, List, [], ◌∷◌, ◌++◌, ℤ, pos}
use Rattle.dp_semantics.proofs.Names.{get_or-set_other, Some, Ok, arith, or-true, list_any, and_parts, cases_Bool, Stmt, out-Stmt, Stmt-F, Program, Plan}
use Rattle.dp_semantics.proofs.Names.{WithLoads, Effect, Stored, Printed, Decided, Tried, Event, followed, value_of, stored, evaluated, first_cell, cell_count}
use Rattle.dp_semantics.proofs.Names.{is_leaving, leaves, taken, taken_left, behind_region, followed-append, well_nested}
use Rattle.dp_semantics.proofs.Followed.{Joins, Parts, followed_has, all_joins}
use Rattle.dp_semantics.proofs.Setting.{Laid, Sound, Each, each_map, Form, InVar, head_access, head_stores, head_loads, evaluated_tracks, Readable, all_well}
use Rattle.dp_semantics.proofs.Setting.{well_at, well_out}
use Rattle.dp_theorem.proofs.Stepping.{event_of, well_parts}
use Rattle.dp_theorem.proofs.Projected.{well_left}
use Rattle.dp_theorem.proofs.Placed.{leaves_taken, is_step}
use Rattle.dp_theorem.proofs.Whole.{Goes, stays, goes}
use Rattle.dp_theorem.proofs.Paths.{no_more}
use Rattle.dp_theorem.proofs.Offsets.{held}

-- A fact of lists of statements that their steps keep, and what it says of each head.
pub record Facts (F : List Stmt → Type 0) (T : Stmt-F Stmt → Type 0) : Type 0 where
  pub joins : Joins F
  pub parts : (x : Stmt) (rest : List Stmt) → F (x ∷ rest) → Parts F (out-Stmt x)
  pub fact : (x : Stmt) (rest : List Stmt) → F (x ∷ rest) → T (out-Stmt x)

module _ {p : Program} {plan : Plan} (laid : Laid p plan) (input : List ℤ) (v : ℕ) (room : 0 < cell_count p (record { 0 = v })) where
  abbrev cell : ℕ
  cell = first_cell p (record { 0 = v })

  abbrev holds : List ℤ → ℤ
  holds cells = held p input cells v

  -- a site of the program that doesn't store v
  abbrev pub Still : Stmt-F Stmt → Type 0
  Still h = Sound p plan (head_access h) × (head_stores h ≡ Some v → ⊥)

  form_here : (h : Stmt-F Stmt) (cells : List ℤ) (w : WithLoads Effect) → Sound p plan (head_access h) → evaluated p input cells h ≡ Ok w → Form p h w.value
  form_here h cells w s e =
      (evaluated_tracks p input cells cells (λ l. Unit {0}) h s.room (each_map (λ x. 0 < cell_count p (record { 0 = x })) (Readable p cells (λ l. Unit {0}))
      (λ x q. (q, λ c inside. tt)) (head_loads h) s.reads) w e).value

  form_stores : (h : Stmt-F Stmt) (c : ℕ) (value : ℤ) → Form p h (Stored c value) → (x : ℕ) × (head_stores h ≡ Some x) × InVar p x c
  form_stores (Rattle.dp_semantics.proofs.Names.Assign s x e) c value f = (x.0, refl, f)
  form_stores (Rattle.dp_semantics.proofs.Names.Store s x index e) c value f = (x.0, refl, f)
  form_stores _ c value f = absurd f

  -- such a site leaves what v holds
  kept : (h : Stmt-F Stmt) (cells : List ℤ) (w : WithLoads Effect) → Still h → evaluated p input cells h ≡ Ok w → holds (stored w.value cells) ≡ holds cells
  kept h cells w s e = by w.value (form_here h cells w s.0 e)
    where
      by : (effect : Effect) → Form p h effect → holds (stored effect cells) ≡ holds cells
      by (Stored c value) f =
          let q = form_stores h c value f in
          get_or-set_other cells c cell value (pos 0)
          (λ (same : cell ≡ c). s.1 (q.1 ∙ ap (λ (x : ℕ). Some x) (laid.apart q.0 v c q.2 (omega (arith, same), omega (arith, same, room)))))
      by (Printed value) f = refl
      by (Decided value) f = refl
      by (Tried value) f = refl

  -- an event, with its head and what v held there
  pub record AtEvent (T : Stmt-F Stmt → Type 0) (value : ℤ) (event : Event) : Type 0 where
    pub head : Stmt-F Stmt
    pub cells : List ℤ
    pub w : WithLoads Effect
    pub gave : evaluated p input cells head ≡ Ok w
    pub is : event ≡ event_of head w
    pub holding : holds cells ≡ value
    pub fact : T head

  module _ {F : List Stmt → Type 0} {T : Stmt-F Stmt → Type 0} (facts : Facts F T) (still : (h : Stmt-F Stmt) → T h → Still h) (value : ℤ) where
    -- Through statements that don't store it v holds the same.
    pub even : {to_do : List Stmt} {cells : List ℤ} {events : List Event} {after : List Stmt} {then_cells : List ℤ} →
        Goes p input to_do cells events after then_cells → F to_do → holds cells ≡ value → Each (AtEvent T value) events × (holds then_cells ≡ value) × F after
    even stays h same = (tt, same, h)
    even (goes {x = x} {rest = rest} {cells = cells} {v = w} e path) h same =
        let t = facts.fact x rest h in
        let q = even path (followed_has F facts.joins x rest (out-Stmt x) (value_of w.value) h (facts.joins.rest x rest h) (facts.parts x rest h))
        (kept (out-Stmt x) cells w (still (out-Stmt x) t) e ∙ same) in
        ((record { head = out-Stmt x; cells = cells; w = w; gave = e; is = refl; holding = same; fact = t }, q.0), q.1, q.2)

-- Steps through two pieces of text: within the first, away from both, or on into the second.
pub data Cut (p : Program) (input : List ℤ) (a b : List Stmt) (cells : List ℤ) (events : List Event) (after : List Stmt) (then_cells : List ℤ) : Type 0 where
  within : (left : List Stmt) → after ≡ left ++ b → Goes p input a cells events left then_cells → Cut p input a b cells events after then_cells
  away : after ≡ [] → Goes p input a cells events [] then_cells → list_any is_leaving events ≡ true → Cut p input a b cells events after then_cells
  across : (first more : List Event) (between : List ℤ) → events ≡ first ++ more → Goes p input a cells first [] between →
      Goes p input b between more after then_cells → Cut p input a b cells events after then_cells

module _ (p : Program) (plan : Plan) (input : List ℤ) where
  well_step : (h : Stmt-F Stmt) → well_at p plan h ≡ true → is_step h ≡ true
  well_step (Rattle.dp_semantics.proofs.Names.Call f line args) w = absurd (cc)
  well_step _ w = refl

  well_both : (a b : List Stmt) → all_well p plan a ≡ true → all_well p plan b ≡ true → all_well p plan (a ++ b) ≡ true
  well_both a b w u = (all_joins (well_nested p plan)).join a b w u

  later : (x : Stmt) (rest b : List Stmt) (before : List ℤ) (w : WithLoads Effect) {events : List Event} {after : List Stmt} {then_cells : List ℤ} →
      evaluated p input before (out-Stmt x) ≡ Ok w →
      Cut p input (followed x rest (out-Stmt x) (value_of w.value)) b (stored w.value before) events after then_cells →
      Cut p input (x ∷ rest) b before (event_of (out-Stmt x) w ∷ events) after then_cells
  later x rest b before w e (within left same path) = within left same (goes e path)
  later x rest b before w e (away end path some) = away end (goes e path) (ap (λ (t : Bool). leaves w.value || t) some ∙ or-true (leaves w.value))
  later x rest b before w e (across first more between events_are path on) =
      across (event_of (out-Stmt x) w ∷ first) more between (ap (λ (es : List Event). event_of (out-Stmt x) w ∷ es) events_are) (goes e path) on

  -- a break that is taken ends the steps
  left_now : (x : Stmt) (a b : List Stmt) (cells : List ℤ) (w : WithLoads Effect) (events : List Event) (after : List Stmt) (then_cells : List ℤ) →
      evaluated p input cells (out-Stmt x) ≡ Ok w → well_at p plan (out-Stmt x) ≡ true →
      taken (out-Stmt x) (value_of w.value) ≡ true → all_well p plan a ≡ true → Goes p input [] (stored w.value cells) events after then_cells →
      Cut p input (x ∷ a) b cells (event_of (out-Stmt x) w ∷ events) after then_cells
  left_now x a b cells w events after then_cells e head t well path =
      let none : events ≡ [] = no_more path refl in
      let end = ended path refl in
      subst (λ (es : List Event). Cut p input (x ∷ a) b cells (event_of (out-Stmt x) w ∷ es) after then_cells) (sym none)
      (away end.0 (goes e (subst (λ (ys : List Stmt). Goes p input ys (stored w.value cells) [] [] then_cells)
      (sym (taken_left x a (out-Stmt x) (value_of w.value) t ∙ well_left p plan a well))
      (subst (λ (cs : List ℤ). Goes p input [] cs [] [] then_cells) end.1 stays)))
      (ap (λ (q : Bool). q || false) (leaves_taken p input x a cells w (well_step (out-Stmt x) head) e ∙ t)))
    where
      ended : {to_do : List Stmt} {cells : List ℤ} {events : List Event} {after : List Stmt} {then_cells : List ℤ} →
          Goes p input to_do cells events after then_cells → to_do ≡ [] → (after ≡ []) × (then_cells ≡ cells)
      ended stays e = (e, refl)
      ended (goes gave path) e = absurd (cc)

  pub cut : {to_do : List Stmt} {cells : List ℤ} {events : List Event} {after : List Stmt} {then_cells : List ℤ} →
      Goes p input to_do cells events after then_cells → (a b : List Stmt) → to_do ≡ a ++ b → all_well p plan a ≡ true → all_well p plan b ≡ true →
      Cut p input a b cells events after then_cells
  cut (stays {cells = cells}) a b is w u = within a is stays
  cut (goes {x = x} {rest = rest} {cells = cells} {v = v} {events = events} {after = after} {then_cells = then_cells} e path) [] b is w u =
      across [] (event_of (out-Stmt x) v ∷ events) cells refl stays
      (subst (λ (ys : List Stmt). Goes p input ys cells (event_of (out-Stmt x) v ∷ events) after then_cells) is (goes e path))
  cut (goes {x = x} {rest = rest} {cells = cells} {v = v} {events = events} {after = after} {then_cells = then_cells} e path) (y ∷ a) b is w u =
      let here : x ≡ y = cc in
      let more : rest ≡ a ++ b = cc in
      let both = and_parts (well_nested p plan y) (all_well p plan a) w in
      let head : well_at p plan (out-Stmt x) ≡ true = sym (well_out p plan x) ∙ ap (well_nested p plan) here ∙ both.0 in
      subst (λ (z : Stmt). Cut p input (z ∷ a) b cells (event_of (out-Stmt x) v ∷ events) after then_cells) here
      (elim (cases_Bool (taken (out-Stmt x) (value_of v.value))) [
        | inl t ↦
            let gone : followed x rest (out-Stmt x) (value_of v.value) ≡ [] = taken_left x rest (out-Stmt x) (value_of v.value) t ∙ ap behind_region more
            ∙ well_left p plan (a ++ b) (well_both a b both.1 u) in
            left_now x a b cells v events after then_cells e head t both.1
            (subst (λ (ys : List Stmt). Goes p input ys (stored v.value cells) events after then_cells) gone path)
        | inr t ↦
            let next : followed x rest (out-Stmt x) (value_of v.value) ≡ followed x a (out-Stmt x) (value_of v.value)
            ++ b = ap (λ (ys : List Stmt). followed x ys (out-Stmt x) (value_of v.value)) more ∙ followed-append x a b (out-Stmt x) (value_of v.value) t in
            later x a b cells v e (cut path (followed x a (out-Stmt x) (value_of v.value)) b next
            (followed_has (λ xs. all_well p plan xs ≡ true) (all_joins (well_nested p plan)) x a (out-Stmt x) (value_of v.value)
            (ap (λ (z : Stmt). all_well p plan (z ∷ a)) here ∙ w) both.1 (well_parts p plan (out-Stmt x) head)) u)
      ])
