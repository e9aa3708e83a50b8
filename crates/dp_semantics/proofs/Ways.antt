-- The source's way from an epoch's start: through whole iterations and then into one.
use Rattle.dp_semantics.proofs.Names.{◌≡◌, refl, sym, ap, ◌∙◌, subst, ℕ, suc, ◌||◌, false, true, List, [], ◌∷◌, ◌++◌, ℤ, length, Ok, Stmt, out-Stmt, Stmt-F}
use Rattle.dp_semantics.proofs.Names.{Program, WithLoads, Event, Effect, followed, site_of, value_of, stored, evaluated, clear_locals, closes, start_cells}
use Rattle.dp_semantics.proofs.Names.{Past, pushed}
use Rattle.dp_plan.specs.IsFar.{is_far, is_far_within}
use Rattle.dp_plan.specs.Checked.{comes_before}

-- the event of an evaluation at this head
abbrev pub event_of : Stmt-F Stmt → WithLoads Effect → Event
event_of head v = record { site = (site_of head).0; loads = v.loads; effect = v.value }

-- the source's steps through statements, with their events
pub data Goes (p : Program) (input : List ℤ) : List Stmt → List ℤ → List Event → List Stmt → List ℤ → Type 0 where
  stays : {to_do : List Stmt} {cells : List ℤ} → Goes p input to_do cells [] to_do cells
  goes : {x : Stmt} {rest : List Stmt} {cells : List ℤ} {v : WithLoads Effect} {events : List Event} {after : List Stmt} {then_cells : List ℤ} →
      evaluated p input cells (out-Stmt x) ≡ Ok v → Goes p input (followed x rest (out-Stmt x) (value_of v.value)) (stored v.value cells)
      events after then_cells →
      Goes p input (x ∷ rest) cells (event_of (out-Stmt x) v ∷ events) after then_cells

-- the whole iterations before number i, which all went on, and the memory where i starts
pub data Before (p : Program) (input : List ℤ) (r : ℕ) (turn : List Stmt) : ℕ → List Past → List ℤ → Type 0 where
  fresh_start : {i : ℕ} {cells : List ℤ} → Before p input r turn i [] cells
  went_on : {i : ℕ} {before earlier : List Past} {cells then_cells next : List ℤ} {events : List Event} → Before p input r turn i before cells →
      Goes p input turn cells events [] then_cells → closes events ≡ false →
      length cells ≡ length (start_cells p.vars) → earlier ≡ pushed i events before → next ≡ clear_locals r p.vars then_cells →
      Before p input r turn (suc i) earlier next

-- the source within iteration i
pub record Here (p : Program) (input : List ℤ) (r : ℕ) (turn : List Stmt) (i : ℕ) (to_do : List Stmt) (earlier : List Past) (cells : List ℤ) : Type 0 where
  pub started : List ℤ
  pub done : List Event
  pub before : List Past
  pub chain : Before p input r turn i before started
  pub path : Goes p input turn started done to_do cells
  pub earlier_is : earlier ≡ pushed i done before
  pub size_is : length started ≡ length (start_cells p.vars)

pub goes_more : {p : Program} {input : List ℤ} {to_do : List Stmt} {cells : List ℤ} {events : List Event} {after : List Stmt} {then_cells : List ℤ} →
    Goes p input to_do cells events after then_cells → (x : Stmt) (rest : List Stmt) → after ≡ x ∷ rest →
    (v : WithLoads Effect) → evaluated p input then_cells (out-Stmt x) ≡ Ok v → Goes p input to_do cells (events ++ event_of (out-Stmt x) v ∷ [])
    (followed x rest (out-Stmt x) (value_of v.value)) (stored v.value then_cells)
goes_more {p} {input} (stays {cells = cells}) x rest is v e =
    subst (λ (ys : List Stmt). Goes p input ys cells (event_of (out-Stmt x) v ∷ []) (followed x rest (out-Stmt x) (value_of v.value)) (stored v.value cells))
    (sym is) (goes e stays)
goes_more (goes gave path) x rest is v e = goes gave (goes_more path x rest is v e)

pub pushed_more : (i : ℕ) (events : List Event) (event : Event) (before : List Past) →
    pushed i (events ++ event ∷ []) before ≡ record { iteration = i; event = event } ∷ pushed i events before
pushed_more i [] event before = refl
pushed_more i (e ∷ es) event before = pushed_more i es event (record { iteration = i; event = e } ∷ before)

pub here_next : {p : Program} {input : List ℤ} {r : ℕ} {turn : List Stmt} {i : ℕ} {x : Stmt} {rest : List Stmt} {earlier : List Past} {cells : List ℤ} →
    Here p input r turn i (x ∷ rest) earlier cells → (v : WithLoads Effect) → evaluated p input cells (out-Stmt x) ≡ Ok v →
    Here p input r turn i (followed x rest (out-Stmt x) (value_of v.value)) (record { iteration = i; event = event_of (out-Stmt x) v } ∷ earlier)
    (stored v.value cells)
here_next {i = i} {x = x} {rest = rest} h v e = record {
  started = h.started;
  done = h.done ++ event_of (out-Stmt x) v ∷ [];
  before = h.before;
  chain = h.chain;
  path = goes_more h.path x rest refl v e;
  earlier_is = ap (λ (ps : List Past). record { iteration = i; event = event_of (out-Stmt x) v } ∷ ps) h.earlier_is
      ∙ sym (pushed_more i h.done (event_of (out-Stmt x) v) h.before);
  size_is = h.size_is;
}

-- the past event's site is one whose stores are known to lie apart from what site u loads in iteration i
pub record Apart (p : Program) (r u i : ℕ) (past : Past) : Type 0 where
  pub far : is_far p r past.event.site u ≡ true
  pub within : past.iteration ≡ i → (is_far_within p r past.event.site u || comes_before p r u past.event.site) ≡ true
