-- One iteration moves the variable by its stride, and each of its events lies before or behind that.
use Rattle.dp_semantics.proofs.Names.{◌≡◌, inl, inr, refl, sym, ap, ◌∙◌, subst, ℕ, ◌+◌, ◌-◌, ◌<◌, Bool, true, false, ◌||◌, if◌then◌else◌, List, [], ◌∷◌, ◌++◌}
use Rattle.dp_semantics.proofs.Names.{ℤ, pos, length, get_or-set_at, list_any, Some, Ok, arith, both_ways, append-nil, cases_Bool, and_parts, Stmt, out-Stmt}
use Rattle.dp_semantics.proofs.Names.{outs-If, Stmt-F, Assign, If, Program, Plan, WithLoads, eval, Effect, Decided, Event, choose, followed, value_of, stored}
use Rattle.dp_semantics.proofs.Names.{evaluated, first_cell, cell_count, closes, is_leaving, leaves, decided_zero, is_zero, well_nested}
use Rattle.std.specs.Prelude.{◌+ℤ◌}
use Rattle.std.proofs.lemmas.Int.{ints}
use Rattle.dp_tree.specs.declared.Stmt.TheVariants as tree
use Rattle.dp_semantics.proofs.Setting.{size, Accepted, Each, each_map, each_join, all_well}
use Rattle.dp_theorem.proofs.Stepping.{event_of, stored-length}
use Rattle.dp_theorem.proofs.Whole.{Goes, stays, goes, turn_of}
use Rattle.dp_theorem.proofs.Turns.{decided_is}
use Rattle.dp_plan.specs.Touch.{stride_of}
use Rattle.dp_theorem.proofs.Offsets.{held, stride_value}
use Rattle.dp_theorem.proofs.Even.{Facts, Still, AtEvent, even, Cut, within, away, across, cut}

-- an assignment is dropped
stride_follows : (v : ℕ) (x : Stmt) (rest : List Stmt) (h : Stmt-F Stmt) (k z : ℤ) → stride_of v h ≡ Some k → followed x rest h z ≡ rest
stride_follows v x rest (Assign site y e) k z t = refl
stride_follows v x rest _ k z t = absurd (cc)

pub goes_length : {p : Program} {input : List ℤ} {to_do : List Stmt} {cells : List ℤ} {events : List Event} {after : List Stmt} {then_cells : List ℤ} →
    Goes p input to_do cells events after then_cells → length then_cells ≡ length cells
goes_length stays = refl
goes_length (goes {cells = cells} {v = v} e path) = goes_length path ∙ stored-length v.value cells

-- where nothing is left to do nothing is done
at_end : {p : Program} {input : List ℤ} {to_do : List Stmt} {cells : List ℤ} {events : List Event} {after : List Stmt} {then_cells : List ℤ} →
    Goes p input to_do cells events after then_cells → to_do ≡ [] → (events ≡ []) × (then_cells ≡ cells)
at_end stays e = (refl, refl)
at_end (goes gave path) e = absurd (cc)

end_stays : {p : Program} {input : List ℤ} {to_do : List Stmt} {cells : List ℤ} {events : List Event} {after : List Stmt} {then_cells : List ℤ} →
    Goes p input to_do cells events after then_cells → to_do ≡ [] → after ≡ []
end_stays stays e = e
end_stays (goes gave path) e = absurd (cc)

-- The text of a body that one statement at its top moves v in, with facts of what stands before and behind it.
pub record Moving {p : Program} {plan : Plan} (a : Accepted p plan) (input : List ℤ) (v : ℕ) (k : ℤ) (U : ℤ → Stmt-F Stmt → Type 0)
    (F G : List Stmt → Type 0) : Type 0 where
  pub room : 0 < cell_count p (record { 0 = v })
  pub front : List Stmt
  pub mover : Stmt
  pub back : List Stmt
  pub body_is : a.body ≡ front ++ mover ∷ back
  pub stride : stride_of v (out-Stmt mover) ≡ Some k
  pub here : U (pos 0) (out-Stmt mover)
  pub condition : Still a.laid input v room (If a.site a.cond a.body []) × U (pos 0) (If a.site a.cond a.body [])
  pub before : Facts F (λ h. Still a.laid input v room h × U (pos 0) h)
  pub behind : Facts G (λ h. Still a.laid input v room h × U k h)
  pub front_has : F front
  pub back_has : G back

module _ {p : Program} {plan : Plan} (a : Accepted p plan) (input : List ℤ) (v : ℕ) (k : ℤ) (U : ℤ → Stmt-F Stmt → Type 0) {F G : List Stmt → Type 0}
    (m : Moving a input v k U F G) where
  abbrev pub holds : List ℤ → ℤ
  holds cells = held p input cells v

  -- the event lies before the moving assignment, or behind it
  abbrev pub Placed : ℤ → Event → Type 0
  Placed value event = (shift : ℤ) × AtEvent a.laid input v m.room (U shift) (value +ℤ shift) event

  plus_none : (value : ℤ) → value +ℤ pos 0 ≡ value
  plus_none value = omega (arith, ints)

  -- the statement that is next, and what v holds there
  pub record Next (value : ℤ) (x : Stmt) (cells : List ℤ) : Type 0 where
    pub shift : ℤ
    pub holding : holds cells ≡ value +ℤ shift
    pub fact : U shift (out-Stmt x)

  abbrev pub NextIs : ℤ → List Stmt → List ℤ → Type 0
  NextIs value after cells = (x : Stmt) (rest : List Stmt) → after ≡ x ∷ rest → Next value x cells

  at_mover : (value : ℤ) (cells : List ℤ) (x : Stmt) → holds cells ≡ value → x ≡ m.mover → Next value x cells
  at_mover value cells x same e =
      record { shift = pos 0; holding = same ∙ sym (plus_none value); fact = subst (λ (y : Stmt). U (pos 0) (out-Stmt y)) (sym e) m.here }

  weaken : (shift value : ℤ) (events : List Event) → Each (AtEvent a.laid input v m.room (λ h. Still a.laid input v m.room h × U shift h) (value +ℤ shift))
      events → Each (Placed value) events
  weaken shift value events h =
      each_map _ (Placed value)
      (λ event q. (shift, record { head = q.head; cells = q.cells; w = q.w; gave = q.gave; is = q.is; holding = q.holding; fact = q.fact.1 })) events h

  -- the assignment itself
  moved : (cells : List ℤ) (value : ℤ) (w : WithLoads Effect) → length cells ≡ size p → holds cells ≡ value →
      evaluated p input cells (out-Stmt m.mover) ≡ Ok w → holds (stored w.value cells) ≡ value +ℤ k
  moved cells value w long same e =
      let is = stride_value p input cells v (out-Stmt m.mover) k w m.stride e in
      let low = a.laid.within v (first_cell p (record { 0 = v })) (omega arith, omega (arith, m.room)) in
      ap (λ (f : Effect). holds (stored f cells)) is ∙ get_or-set_at cells (first_cell p (record { 0 = v })) (first_cell p (record { 0 = v }))
      (holds cells +ℤ k) (pos 0) refl (omega (arith, low, long)) ∙ ap (λ (z : ℤ). z +ℤ k) same

  -- what is known of the steps of the body, or of a part of it
  record Known (value : ℤ) (events : List Event) (after : List Stmt) (then_cells : List ℤ) : Type 0 where
    each : Each (Placed value) events
    whole : after ≡ [] → list_any is_leaving events ≡ false → holds then_cells ≡ value +ℤ k
    next : NextIs value after then_cells

  front_part : (value : ℤ) {cells : List ℤ} {events : List Event} {left : List Stmt} {then_cells : List ℤ} → Goes p input m.front cells events left then_cells →
      holds cells ≡ value → Each (Placed value) events × (holds then_cells ≡ value) × F left
  front_part value path same =
      let q = even a.laid input v m.room m.before (λ h t. t.0) (value +ℤ pos 0) path m.front_has (same ∙ sym (plus_none value)) in
      (weaken (pos 0) value _ q.0, q.1 ∙ plus_none value, q.2)

  back_part : (value : ℤ) {to_do : List Stmt} {cells : List ℤ} {events : List Event} {after : List Stmt} {then_cells : List ℤ} →
      Goes p input to_do cells events after then_cells → to_do ≡ m.mover ∷ m.back → length cells ≡ size p → holds cells ≡ value →
      Known value events after then_cells
  back_part value (stays {cells = cells}) is long same =
      record {
        each = tt;
        whole = λ end none. let clash : [] ≡ m.mover ∷ m.back = sym end ∙ is in absurd (cc
            clash);
        next = λ x rest e. let both : x ∷ rest ≡ m.mover ∷ m.back = sym e ∙ is in at_mover value cells x same (cc both);
      }
  back_part value (goes {x = x} {rest = rest} {cells = cells} {v = w} {events = events} {after = after} {then_cells = then_cells} e path) is long same =
      let here : x ≡ m.mover = cc in
      let more : rest ≡ m.back = cc in
      let gave : evaluated p input cells (out-Stmt m.mover) ≡ Ok w = ap (λ (y : Stmt). evaluated p input cells (out-Stmt y)) (sym here) ∙ e in
      let next : followed x rest (out-Stmt x) (value_of w.value) ≡ m.back = stride_follows v x rest (out-Stmt x) k (value_of w.value)
      (ap (λ (y : Stmt). stride_of v (out-Stmt y)) here ∙ m.stride) ∙ more in
      let q = even a.laid input v m.room m.behind (λ h t. t.0) (value +ℤ k)
      (subst (λ (ys : List Stmt). Goes p input ys (stored w.value cells) events after then_cells) next path) m.back_has (moved cells value w long same gave) in
      record {
        each = (
          (
            pos 0,
            record {
              head = out-Stmt m.mover;
              cells = cells;
              w = w;
              gave = gave;
              is = ap (λ (y : Stmt). event_of (out-Stmt y)
                  w) here;
              holding = same ∙ sym (plus_none value);
              fact = m.here;
            },
          ),
          weaken k value events q.0,
        );
        whole = λ end none. q.1;
        next = λ y tail e. record { shift = k; holding = q.1; fact = (m.behind.fact y tail (subst G e q.2)).1 };
      }

  body_steps : (value : ℤ) {cells : List ℤ} {events : List Event} {after : List Stmt} {then_cells : List ℤ} →
      Goes p input a.body cells events after then_cells → length cells ≡ size p → holds cells ≡ value → Known value events after then_cells
  body_steps value {cells} {events} {after} {then_cells} path long same = by (cut p plan input path m.front (m.mover ∷ m.back) m.body_is parts.0 parts.1)
    where
      joined : all_well p plan (m.front ++ m.mover ∷ m.back) ≡ true
      joined = ap (all_well p plan) (sym m.body_is) ∙ a.well

      parts : (all_well p plan m.front ≡ true) × (all_well p plan (m.mover ∷ m.back) ≡ true)
      parts = and_parts (all_well p plan m.front) (all_well p plan (m.mover ∷ m.back))
          (sym (Rattle.dp_semantics.proofs.Names.list_all-append (well_nested p plan) m.front (m.mover ∷ m.back)) ∙ joined)

      not_end : {A : Type 0} (left : List Stmt) → [] ≡ left ++ m.mover ∷ m.back → A
      not_end [] e = absurd (cc)
      not_end (x ∷ left) e = absurd (cc)

      rest_stays : (first more : List Event) → list_any is_leaving (first ++ more) ≡ false → list_any is_leaving more ≡ false
      rest_stays first more e =
          (Rattle.dp_semantics.proofs.Names.or_parts (list_any is_leaving first) (list_any is_leaving more)
          (sym (Rattle.dp_semantics.proofs.Names.list_any-append is_leaving first more) ∙ e)).1

      next_front : (left : List Stmt) → after ≡ left ++ m.mover ∷ m.back → holds then_cells ≡ value → F left → NextIs value after then_cells
      next_front [] is q f x rest e = let both : x ∷ rest ≡ m.mover ∷ m.back = sym e ∙ is in at_mover value then_cells x q (cc both)
      next_front (y ∷ left) is q f x rest e =
          let both : x ∷ rest ≡ y ∷ (left ++ m.mover ∷ m.back) = sym e ∙ is in
          let here : x ≡ y = cc both in
          record {
            shift = pos 0;
            holding = q ∙ sym (plus_none value);
            fact = subst (λ (z : Stmt). U (pos 0) (out-Stmt z)) (sym
                here) (m.before.fact y left f).1;
          }

      by : Cut p input m.front (m.mover ∷ m.back) cells events after then_cells → Known value events after then_cells
      by (within left is path) =
          let q = front_part value path same in record { each = q.0; whole = λ end none. not_end left (sym end ∙ is); next = next_front left is q.1 q.2 }
      by (away end path some) =
          record {
            each = (front_part value path same).0;
            whole = λ end none. absurd (both_ways (list_any is_leaving events) none
                some);
            next = λ x rest e. let clash : [] ≡ x ∷ rest = sym end ∙ e in absurd (cc clash);
          }
      by (across first more between are path on) =
          let q = front_part value path same in
          let r = back_part value on refl (goes_length path ∙ long) q.1 in
          record {
            each = subst (λ (es : List Event). Each (Placed value) es) (sym are) (each_join (Placed value) first more q.0 r.each);
            whole = λ end none. r.whole end (rest_stays first more (ap (λ (es : List Event). list_any is_leaving es) (sym are) ∙ none));
            next = r.next;
          }

  -- One iteration, from the region's condition on.
  pub turn_steps : (value : ℤ) {to_do : List Stmt} {cells : List ℤ} {events : List Event} {after : List Stmt} {then_cells : List ℤ} →
      Goes p input to_do cells events after then_cells → to_do ≡ turn_of a → length cells ≡ size p → holds cells ≡ value →
      Each (Placed value) events × (after ≡ [] → closes events ≡ false → holds then_cells ≡ value +ℤ k) × NextIs value after then_cells
  turn_steps value (stays {cells = cells}) is long same = (
    tt,
    (λ end none. let clash : [] ≡ tree.If a.site a.cond a.body [] ∷ [] = sym end ∙ is in absurd (cc clash)),
    λ x rest e.
        let both : x ∷ rest ≡ tree.If a.site a.cond a.body [] ∷ [] = sym e ∙ is in
        let here : x ≡ tree.If a.site a.cond a.body [] = cc both in
        let head : out-Stmt x ≡ If a.site a.cond a.body [] = ap out-Stmt here ∙ outs-If a.site a.cond a.body [] in
        record { shift = pos 0; holding = same ∙ sym (plus_none value); fact = subst (λ (g : Stmt-F Stmt). U (pos 0) g) (sym head) m.condition.1 },
  )
  turn_steps value (goes {x = x} {rest = rest} {cells = cells} {v = w} {events = events} {after = after} {then_cells = then_cells} e path) is long same =
      let here : x ≡ tree.If a.site a.cond a.body [] = cc in
      let none : rest ≡ [] = cc in
      let head : out-Stmt x ≡ If a.site a.cond a.body [] = ap out-Stmt here ∙ outs-If a.site a.cond a.body [] in
      let gave : evaluated p input cells (If a.site a.cond a.body []) ≡ Ok w = ap (evaluated p input cells) (sym head) ∙ e in
      let d = decided_is (eval p input cells a.cond) w gave in
      let next : followed x rest (out-Stmt x) (value_of w.value) ≡ choose d.0 a.body [] =
      ap (λ (h : Stmt-F Stmt). followed x rest h (value_of w.value)) head ∙ ap (λ (ys : List Stmt). choose (value_of w.value) a.body [] ++ ys) none
      ∙ append-nil (choose (value_of w.value) a.body [])
      ∙ ap (λ (f : Effect). choose (value_of f) a.body []) d.1 in
      let first : Placed value (event_of (out-Stmt x) w) = (
        pos 0,
        record {
          head = If a.site a.cond a.body [];
          cells = cells;
          w = w;
          gave = gave;
          is = ap (λ (h : Stmt-F Stmt). event_of h
              w) head;
          holding = same ∙ sym (plus_none value);
          fact = m.condition.1;
        },
      ) in
      let on : Goes p input (choose d.0 a.body []) cells events after then_cells =
      subst (λ (cs : List ℤ). Goes p input (choose d.0 a.body []) cs events after then_cells) (ap (λ (f : Effect). stored f cells) d.1)
      (subst (λ (ys : List Stmt). Goes p input ys (stored w.value cells) events after then_cells) next path) in
      elim (cases_Bool (is_zero d.0)) [
        | inl z ↦
            let over = at_end on (ap (λ (b : Bool). if b then [] else a.body) z) in (
              (first, subst (λ (es : List Event). Each (Placed value) es) (sym over.0) tt),
              (λ end open'. absurd
                  (both_ways (closes (event_of (out-Stmt x) w ∷ events)) open' (zero_closes (event_of (out-Stmt x) w) events d.0 d.1 z))),
              λ y tail e. let clash : [] ≡ y ∷ tail = sym (end_stays on (ap (λ (b : Bool). if b then [] else a.body) z)) ∙ e in absurd (cc clash),
            )
        | inr z ↦
            let q = body_steps value (subst (λ (ys : List Stmt). Goes p input ys cells events after then_cells)
            (ap (λ (b : Bool). if b then [] else a.body) z) on) long same in
            ((first, q.each), (λ end open'. q.whole end (inner_stays (event_of (out-Stmt x) w) events open')), q.next)
      ]
    where
      zero_closes : (event : Event) (more : List Event) (z : ℤ) → event.effect ≡ Decided z → is_zero z ≡ true → closes (event ∷ more) ≡ true
      zero_closes event more z d t = ap (λ (f : Effect). decided_zero (Some (record { site = event.site; loads = event.loads; effect = f })) || list_any
          is_leaving (event ∷ more)) d ∙ ap (λ (b : Bool). b || list_any is_leaving (event ∷ more)) t

      inner_stays : (event : Event) (more : List Event) → closes (event ∷ more) ≡ false → list_any is_leaving more ≡ false
      inner_stays event more e =
          (Rattle.dp_semantics.proofs.Names.or_parts (leaves event.effect) (list_any is_leaving more)
          (Rattle.dp_semantics.proofs.Names.or_parts (decided_zero (Some event)) (list_any is_leaving (event ∷ more)) e).1).1
