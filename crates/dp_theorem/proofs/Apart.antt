-- What a store far from a load leaves is never loaded there in a later iteration.
use Rattle.dp_semantics.proofs.Names.{◌||◌, ◌≡◌, inl, inr, refl, sym, ap, ◌∙◌, subst, ℕ, zero, suc, ◌+◌, ◌-◌, ◌<◌, ◌≤◌, false, List, [], ℤ, pos, Option, Some}
use Rattle.dp_semantics.proofs.Names.{None, is_some, arith, both_ways, cases_eq, Stmt, Expr, Program, Plan, Config, StandsInMain, Load, Stored, Event}
use Rattle.dp_semantics.proofs.Names.{first_cell, cell_count, Run, start, starts, iteration, is_closing, has_ended, memory_after, clear_locals, is_body_local}
use Rattle.std.specs.Prelude.{◌+ℤ◌}
use Rattle.std.proofs.lemmas.Int.{ints}
use Rattle.dp_semantics.proofs.Setting.{Accepted, Each, each_map, InVar}
use Rattle.dp_theorem.proofs.Whole.{clear-other}
use Rattle.dp_theorem.proofs.Iterations.{run, goes_on, closes, breaks, IterationIs, iteration_is}
use Rattle.dp_theorem.proofs.Central.{earlier_start}
use Rattle.dp_plan.specs.Touch.{Touch}
use Rattle.dp_theorem.proofs.Far.{times, Lies, Both, Far, FarWithin}
use Rattle.dp_semantics.specs.FarPairs.{AreApart}
use Rattle.dp_theorem.proofs.Reading.{Loaded, Passes, head_loaded}
use Rattle.dp_theorem.proofs.Offsets.{held, load_lands, store_lands}
use Rattle.dp_theorem.proofs.Strides.{Moving, holds, Placed, turn_steps}

module _ {p : Program} {plan : Plan} (a : Accepted p plan) (input : List ℤ) (fuel : ℕ) (begins : Config) (stands : StandsInMain p begins) (v : ℕ) (k : ℤ)
    (outer : is_body_local p plan v ≡ false)
    (d u array : ℕ) (place : ℤ) (Loads : ℤ → Type 0) {F G : List Stmt → Type 0} (m : Moving a input v k (Both p v d u array place Loads) F G) where
  abbrev r : ℕ
  r = plan.region

  abbrev source : Run
  source = run a input fuel begins stands

  -- what v holds where iteration i starts
  abbrev at_start : ℕ → ℤ
  at_start i = holds a input v k (Both p v d u array place Loads) m (memory_after source r i)

  abbrev Here : ℕ → Event → Type 0
  Here i event = Placed a input v k (Both p v d u array place Loads) m (at_start i) event

  steps_of : (i n : ℕ) (q : IterationIs a input fuel begins stands i n) → Each (Here i) (iteration source r i)
      × (q.after ≡ [] → Rattle.dp_tree.specs.Iteration.closes (iteration source r i) ≡ false → held p input q.then_cells v ≡ at_start i +ℤ k)
  steps_of i n q = let s = turn_steps a input v k (Both p v d u array place Loads) m (at_start i) q.path refl q.size_is refl in (s.0, s.1)

  events_placed : (i n : ℕ) → start source r i ≡ Some n → Each (Here i) (iteration source r i)
  events_placed i n e = (steps_of i n (iteration_is a input fuel begins stands i n e)).0

  cleared_held : (cells : List ℤ) → held p input (clear_locals r p.vars cells) v ≡ held p input cells v
  cleared_held cells = clear-other r (first_cell p (record { 0 = v })) p.vars cells (a.laid.local v (first_cell p (record { 0 = v }))
      (omega arith, omega (arith, m.room)) ∙ outer)

  next_start : (i n later : ℕ) → start source r i ≡ Some n → start source r (suc i) ≡ Some later → at_start (suc i) ≡ at_start i +ℤ k
  next_start i n later e f = let q = iteration_is a input fuel begins stands i n e in elim q.ending [
    | goes_on end there memory config going within ↦ ap (λ (cells : List ℤ). held p input cells v) memory ∙ cleared_held q.then_cells
        ∙ (steps_of i n q).1 end going
    | closes end none closing stop config within ↦ let clash : None ≡ Some later = sym none ∙ f in absurd (cc clash)
    | breaks x rest after unended why ends ↦
        absurd (both_ways (has_ended source r i) unended (ap (λ (o : Option ℕ). Rattle.dp_semantics.proofs.Names.is_some o || is_closing source r i) f))
  ]

  -- n iterations further v is moved by n strides
  strides : (i n last : ℕ) → start source r (i + n) ≡ Some last → at_start (i + n) ≡ at_start i +ℤ times n k
  strides i zero last e = let same : i + 0 ≡ i = omega arith in ap at_start same ∙ omega (arith, ints)
  strides i (suc n) last e =
      let next : i + suc n ≡ suc (i + n) = omega arith in
      let here = ap (start source r) (sym next) ∙ e in
      let before = earlier_start (starts source r) (suc (i + n)) (i + n) last here (omega arith) in
      let one = next_start (i + n) before.0 last before.1 here in
      let so_far = strides i n before.0 before.1 in
      ap at_start next ∙ omega (arith, ints, one, so_far)

  -- two iterations, the same or one later, whose strides bring no place together
  module _ (i j last : ℕ) (order : i ≤ j) (reached : start source r j ≡ Some last) (never : (o : ℤ) → Loads o → place ≡ o +ℤ times (j - i) k → ⊥) where
    apart : at_start j ≡ at_start i +ℤ times (j - i) k
    apart = let sum : i + (j - i) ≡ j = omega (arith, order) in sym (ap at_start sum) ∙ strides i (j - i) last (ap (start source r) sum ∙ reached)

    -- the store's cell, from where v stood
    abbrev StoredThere : ℕ → Type 0
    StoredThere c = (pos c ≡ pos (first_cell p (record { 0 = array })) +ℤ (at_start i +ℤ place)) × InVar p array c

    stored_there : (event : Event) → Here i event → event.site ≡ d → (c : ℕ) (z : ℤ) → event.effect ≡ Stored c z → StoredThere c
    stored_there event (shift, q) at c z stores =
        let there = q.fact.0 (sym (ap (λ (e : Event). e.site) q.is) ∙ at) in
        let lies = there.2 in
        let s = store_lands p input q.cells v q.head array lies.text lies.plain q.w (there.1
        ∙ ap (λ (o : Option Expr). Some (record { variable = array; index = o })) lies.index_is) lies.offset_is q.gave in
        let same_effect : Stored s.0 s.1 ≡ Stored c z = sym s.2 ∙ sym (ap (λ (e : Event). e.effect) q.is) ∙ stores in
        let same : s.0 ≡ c = cc same_effect in
        (omega (arith, ints, s.3, q.holding, lies.place_is, same), (omega (arith, s.4, same), omega (arith, s.5, same)))

    -- a load of another cell
    other_load : (c : ℕ) → StoredThere c → (shift : ℤ) (cells : List ℤ) (t : Touch) (l : ℕ) → held p input cells v ≡ at_start j +ℤ shift →
        0 < cell_count p (record { 0 = t.variable }) →
        (t.variable ≡ array → (o : ℤ) × Lies p v d u array place Loads shift t.index o × Loads o) → Loaded p input cells t.variable t.index l → l ≡ c → ⊥
    other_load c s shift cells t l holding room places loaded same = elim (cases_eq t.variable array) [
      | inl e ↦
          let there = places e in
          let lies = there.1 in
          let lands = load_lands p input cells v array lies.text lies.plain l lies.offset_is (subst (λ (o : Option Expr). Loaded p input cells array o l)
          lies.index_is (subst (λ (x : ℕ). Loaded p input cells x t.index l) e loaded)) in
          never there.0 there.2 (omega (arith, ints, s.0, lands, holding, lies.place_is, apart, same))
      | inr e ↦ e (a.laid.apart t.variable array c (in_range t.variable t.index l room loaded same) s.1)
    ]
      where
        in_range : (x : ℕ) (index : Option Expr) (l : ℕ) → 0 < cell_count p (record { 0 = x }) → Loaded p input cells x index l → l ≡ c → InVar p x c
        in_range x None l some q e = (omega (arith, q, e), omega (arith, q, e, some))
        in_range x (Some index) l some q e = (omega (arith, q.4, e), omega (arith, q.4, q.5, e))

    loads_apart : (c : ℕ) → StoredThere c → (event : Event) → Here j event → event.site ≡ u → Each (λ (l : Load). l.cell ≡ c → ⊥) event.loads
    loads_apart c s event (shift, q) at =
        let there = q.fact.1 (sym (ap (λ (e : Event). e.site) q.is) ∙ at) in
        subst (λ (ls : List Load). Each (λ (l : Load). l.cell ≡ c → ⊥) ls) (sym (ap (λ (e : Event). e.loads) q.is))
        (each_map (Passes p input q.cells there.test) (λ (l : Load). l.cell ≡ c → ⊥) (λ l h. other_load c s shift q.cells h.0 l.cell q.holding
        (there.cells h.0 h.1) (there.places h.0 h.1) h.2) q.w.loads
        (head_loaded p input q.cells there.test q.head q.w q.gave there.all))

    -- where site d stores in iteration i, site u loads another cell in iteration j
    pub never_met : AreApart d u (iteration source r i) (iteration source r j)
    never_met =
        let first = earlier_start (starts source r) j i last reached order in
        each_map (Here i) _ (λ store h at c z stores. each_map (Here j) _ (λ load g there. loads_apart c (stored_there store h at c z stores) load g there)
        (iteration source r j) (events_placed j last reached)) (iteration source r i) (events_placed i first.0 first.1)

  -- A store far from a load leaves nothing that is loaded there in a later iteration ..
  pub never_carried : Far p v d u array place Loads k → (i j last : ℕ) → i < j → start source r j ≡ Some last →
      AreApart d u (iteration source r i) (iteration source r j)
  never_carried far i j last order reached = never_met i j last (omega (arith, order)) reached (λ o loaded e. far o (j - i) loaded (omega (arith, order)) e)

  -- .. and one far within, nothing that is loaded there in its own iteration.
  pub never_within : FarWithin p v d u array place Loads → (i last : ℕ) → start source r i ≡ Some last →
      AreApart d u (iteration source r i) (iteration source r i)
  never_within far i last reached =
      never_met i i last (omega arith) reached
      (λ o loaded e. far o loaded (let none : i - i ≡ 0 = omega arith in e ∙ ap (λ (q : ℕ). o +ℤ times q k) none ∙ omega (arith, ints)))
