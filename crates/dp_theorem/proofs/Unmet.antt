-- What a site loads is no cell into which a site that lies apart from it stored.
use Rattle.dp_semantics.proofs.Names.{◌≡◌, inl, inr, refl, sym, ap, ◌∙◌, subst, ℕ, suc, ◌-◌, ◌<◌, ◌≤◌, true, false, ◌&&◌, List, [], ◌∷◌, ℤ, pos, get_or, Option}
use Rattle.dp_semantics.proofs.Names.{Some, None, Ok, arith, cases_eq, and_parts, Stmt-F, Stmt, out-Stmt, Expr, Program, Plan, WithLoads, Load, Effect, Stored}
use Rattle.dp_semantics.proofs.Names.{Event, Past, pushed, first_cell, cell_count, evaluated, clear_locals, is_body_local, site_of}
use Rattle.std.specs.Prelude.{◌+ℤ◌}
use Rattle.std.proofs.lemmas.Int.{ints}
use Rattle.dp_semantics.proofs.Setting.{Accepted, Each, each_map, InVar, ClearSame, Clear, head_loads, turn_of}
use Rattle.dp_semantics.proofs.Ways.{Before, fresh_start, went_on, Here}
use Rattle.dp_theorem.proofs.Whole.{clear-other}
use Rattle.dp_plan.specs.Touch.{Touch, offset, head_reads}
use Rattle.dp_theorem.proofs.Far.{times, Lies, Both}
use Rattle.dp_theorem.proofs.Reading.{Loaded, Passes, head_loaded}
use Rattle.dp_theorem.proofs.Offsets.{held, load_lands, store_lands}
use Rattle.dp_theorem.proofs.Strides.{Moving, Placed, Next, turn_steps}
use Rattle.dp_theorem.proofs.Passing.{pair_all}
use Rattle.dp_theorem.proofs.Indices.{is_among, all_among, among_each, index_passes, head_fine, offset_passes}

pub pushed_each : (Q : Past → Type 0) (i : ℕ) (events : List Event) (before : List Past) → Each (λ (e : Event). Q (record { iteration = i; event = e })) events
    → Each Q before → Each Q (pushed i events before)
pushed_each Q i [] before h k = k
pushed_each Q i (e ∷ es) before h k = pushed_each Q i es (record { iteration = i; event = e } ∷ before) h.1 (h.0, k)

module _ {p : Program} {plan : Plan} (a : Accepted p plan) (input : List ℤ) (v : ℕ) (k : ℤ) (outer : is_body_local p plan v ≡ false)
    (d u array : ℕ) (place : ℤ) (Loads : ℤ → Type 0) {F G : List Stmt → Type 0} (m : Moving a input v k (Both p v d u array place Loads) F G) where
  abbrev r : ℕ
  r = plan.region

  abbrev now : List ℤ → ℤ
  now cells = held p input cells v

  abbrev PlacedAt : ℤ → Event → Type 0
  PlacedAt value event = Placed a input v k (Both p v d u array place Loads) m value event

  abbrev NextAt : ℤ → Stmt → List ℤ → Type 0
  NextAt value x cells = Next a input v k (Both p v d u array place Loads) m value x cells

  -- a past event, with what v held where its iteration started
  record PastPlaced (i : ℕ) (value : ℤ) (past : Past) : Type 0 where
    start : ℤ
    order : past.iteration ≤ i
    moved : value ≡ start +ℤ times (i - past.iteration) k
    placed : PlacedAt start past.event

  cleared_held : (cells : List ℤ) → now (clear_locals r p.vars cells) ≡ now cells
  cleared_held cells = clear-other r (first_cell p (record { 0 = v })) p.vars cells (a.laid.local v (first_cell p (record { 0 = v }))
      (omega arith, omega (arith, m.room)) ∙ outer)

  this_one : (i : ℕ) (value : ℤ) (events : List Event) → Each (PlacedAt value) events →
      Each (λ (e : Event). PastPlaced i value (record { iteration = i; event = e })) events
  this_one i value events h =
      each_map (PlacedAt value) _
      (λ e q. let none : i - i ≡ 0 = omega arith in record {
        start = value;
        order = omega arith;
        moved = sym (ap (λ (n : ℕ). value +ℤ times n k) none
            ∙ omega (arith, ints));
        placed = q;
      }) events h

  one_later : (i : ℕ) (value next : ℤ) (past : Past) → next ≡ value +ℤ k → PastPlaced i value past → PastPlaced (suc i) next past
  one_later i value next past e q =
      let more : suc i - past.iteration ≡ suc (i - past.iteration) = omega (arith, q.order) in
      record {
        start = q.start;
        order = omega (arith, q.order);
        moved = sym (ap (λ (n : ℕ). q.start +ℤ times n k) more
            ∙ omega (arith, ints, e, q.moved));
        placed = q.placed;
      }

  chain_placed : {i : ℕ} {before : List Past} {cells : List ℤ} → Before p input r (turn_of a) i before cells → Each (PastPlaced i (now cells)) before
  chain_placed fresh_start = tt
  chain_placed (went_on {i = i} {before = before} {earlier = earlier} {cells = cells} {then_cells = then_cells} {next = next} {events = events} chain path going
      size earlier_is next_is) =
      let steps = turn_steps a input v k (Both p v d u array place Loads) m (now cells) path refl size refl in
      let moved : now next ≡ now cells +ℤ k = ap now next_is ∙ cleared_held then_cells ∙ steps.1 refl going in
      subst (λ (ps : List Past). Each (PastPlaced (suc i) (now next)) ps) (sym earlier_is)
      (each_map (PastPlaced i (now cells)) (PastPlaced (suc i) (now next)) (λ past q. one_later i (now cells) (now next) past moved q) (pushed i events before)
      (pushed_each (PastPlaced i (now cells)) i events before (this_one i (now cells) events steps.0) (chain_placed chain)))

  -- a store's cell, from where v stood
  abbrev StoredThere : ℤ → ℕ → Type 0
  StoredThere start c = (pos c ≡ pos (first_cell p (record { 0 = array })) +ℤ (start +ℤ place)) × InVar p array c

  stored_there : (start : ℤ) (event : Event) → PlacedAt start event → event.site ≡ d → (c : ℕ) (z : ℤ) → event.effect ≡ Stored c z → StoredThere start c
  stored_there start event (shift, q) at c z stores =
      let there = q.fact.0 (sym (ap (λ (e : Event). e.site) q.is) ∙ at) in
      let lies = there.2 in
      let s = store_lands p input q.cells v q.head array lies.text lies.plain q.w (there.1
      ∙ ap (λ (o : Option Expr). Some (record { variable = array; index = o })) lies.index_is) lies.offset_is q.gave in
      let same_effect : Stored s.0 s.1 ≡ Stored c z = sym s.2 ∙ sym (ap (λ (e : Event). e.effect) q.is) ∙ stores in
      let same : s.0 ≡ c = cc same_effect in
      (omega (arith, ints, s.3, q.holding, lies.place_is, same), (omega (arith, s.4, same), omega (arith, s.5, same)))

  module _ {i : ℕ} {x : Stmt} {rest : List Stmt} {earlier : List Past} {cells : List ℤ} (h : Here p input r (turn_of a) i (x ∷ rest) earlier cells)
      (site : (site_of (out-Stmt x)).0 ≡ u) where
    abbrev value : ℤ
    value = now h.started

    abbrev head : Stmt-F Stmt
    head = out-Stmt x

    all_placed : Each (PastPlaced i value) earlier × NextAt value x cells
    all_placed =
        let steps = turn_steps a input v k (Both p v d u array place Loads) m value h.path refl h.size_is refl in (
          subst (λ (ps : List Past). Each (PastPlaced i value) ps) (sym h.earlier_is) (pushed_each (PastPlaced i value) i h.done h.before
              (this_one i value h.done steps.0) (chain_placed h.chain)),
          steps.2 x rest refl,
        )

    -- the past event of site d isn't a store into this cell, where no strides bring the places together
    abbrev pub Unmet : ℕ → Past → Type 0
    Unmet c past = past.event.site ≡ d → (past.iteration ≤ i → (o : ℤ) → Loads o → place ≡ o +ℤ times (i - past.iteration) k → ⊥) → (z : ℤ) →
        past.event.effect ≡ Stored c z → ⊥

    module _ (one : List ℤ) (w : WithLoads Effect) (gave : evaluated p input one head ≡ Ok w) (same : ClearSame p plan one cells head)
        (clear : Clear p plan (site_of head).0 v) where
      in_range : (y c : ℕ) (index : Option Expr) (l : ℕ) → 0 < cell_count p (record { 0 = y }) → Loaded p input one y index l → l ≡ c → InVar p y c
      in_range y c None l some q e = (omega (arith, q, e), omega (arith, q, e, some))
      in_range y c (Some index) l some q e = (omega (arith, q.4, e), omega (arith, q.4, q.5, e))

      -- v holds the same where an index by it is evaluated
      held_same : (e : Expr) (n : ℤ) → offset v e ≡ Some n → index_passes (is_among (head_loads head)) (Some e) ≡ true → held p input one v ≡ now cells
      held_same e n t fine =
          among_each (λ y. Clear p plan (site_of head).0 y → (c : ℕ) → InVar p y c → get_or one c (pos 0) ≡ get_or cells c (pos 0)) (head_loads head) same v
          (offset_passes (is_among (head_loads head)) v e n t fine) clear (first_cell p (record { 0 = v })) (omega arith, omega (arith, m.room))

      unmet : (next : NextAt value x cells) (past : Past) → PastPlaced i value past → (t : Touch) (l : ℕ) → 0 < cell_count p (record { 0 = t.variable }) →
          (t.variable ≡ array → (o : ℤ) × Lies p v d u array place Loads next.shift t.index o × Loads o) →
          index_passes (is_among (head_loads head)) t.index ≡ true → Loaded p input one t.variable t.index l → Unmet l past
      unmet next past q t l room places fine loaded at never z stores =
          let s = stored_there q.start past.event q.placed at l z stores in
          elim (cases_eq t.variable array) [
            | inl e ↦
                let there = places e in
                let lies = there.1 in
                let lands = load_lands p input one v array lies.text lies.plain l lies.offset_is (subst (λ (o : Option Expr). Loaded p input one array o l)
                lies.index_is (subst (λ (y : ℕ). Loaded p input one y t.index l) e loaded)) in
                let holding = held_same lies.text lies.plain lies.offset_is (subst (λ (o : Option Expr). index_passes (is_among (head_loads head)) o ≡ true)
                lies.index_is fine) in
                never q.order there.0 there.2 (omega (arith, ints, s.0, lands, holding, next.holding, lies.place_is, q.moved))
            | inr e ↦ e (a.laid.apart t.variable array l (in_range t.variable l t.index l room loaded refl) s.1)
          ]

      pub all_unmet : Each (λ (l : Load). Each (Unmet l.cell) earlier) w.loads
      all_unmet =
          let placed = all_placed in
          let next = placed.1 in
          let there = next.fact.1 site in
          each_map (Passes p input one (λ t. there.test t && index_passes (is_among (head_loads head)) t.index)) (λ (l : Load). Each (Unmet l.cell) earlier)
          (λ l q.
          let both = and_parts (there.test q.0) (index_passes (is_among (head_loads head)) q.0.index) q.1 in
          each_map (PastPlaced i value) (Unmet l.cell) (λ past r. unmet next past r q.0 l.cell (there.cells q.0 both.0) (there.places q.0 both.0) both.1 q.2)
          earlier placed.0) w.loads
          (head_loaded p input one (λ t. there.test t && index_passes (is_among (head_loads head)) t.index) head w gave
          (pair_all there.test (λ t. index_passes (is_among (head_loads head)) t.index) (head_reads head) there.all
          (head_fine (is_among (head_loads head)) head (all_among (head_loads head)))))
