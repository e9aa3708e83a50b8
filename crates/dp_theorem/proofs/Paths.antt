-- The source's steps through a text: they are determined, an iteration closes by its first event, and its stores lead to its last memory.
use Rattle.dp_semantics.proofs.Names.{list_any, is_leaving, leaves, closes, closes_at, ◌≡◌, refl, sym, ap, ◌∙◌, subst, ℕ, Bool, true, false, ◌&&◌, ◌||◌}
use Rattle.dp_semantics.proofs.Names.{if◌then◌else◌, List, [], ◌∷◌, ◌++◌, ℤ, map, Some, Ok, eq-eqb, ne_eqb, append-nil, is_zero, Stmt, out-Stmt, outs-If}
use Rattle.dp_semantics.proofs.Names.{Stmt-F, If, Program, Plan, WithLoads, eval, Event, Effect, Decided, choose, followed, site_of, value_of, stored}
use Rattle.dp_semantics.proofs.Names.{evaluated, Access, accesses, first_site, decided_zero, well_nested, effect_in, applied, and_parts, or-false}
use Rattle.dp_tree.specs.declared.Stmt.TheVariants as tree
use Rattle.dp_semantics.proofs.Setting.{Accepted, Each, each_split, head_access, accesses_all, all_well, accesses_out, well_at, well_out, followed_has}
use Rattle.dp_semantics.proofs.Setting.{all_joins}
use Rattle.dp_theorem.proofs.Whole.{turn_of, Goes, stays, goes, closing_after}
use Rattle.dp_theorem.proofs.Turns.{decided_is}
use Rattle.dp_theorem.proofs.Stepping.{event_of, well_parts, each_joins, each_parts, head_fact}
use Rattle.std.proofs.Math.Bool.{or_assoc}

-- the first of the steps from a statement to the end
pub record First (p : Program) (input : List ℤ) (x : Stmt) (rest : List Stmt) (cells : List ℤ) (events : List Event) (after : List Stmt)
    (then_cells : List ℤ) : Type 0 where
  pub v : WithLoads Effect
  pub more : List Event
  pub gave : evaluated p input cells (out-Stmt x) ≡ Ok v
  pub events_are : events ≡ event_of (out-Stmt x) v ∷ more
  pub path : Goes p input (followed x rest (out-Stmt x) (value_of v.value)) (stored v.value cells) more after then_cells

-- Steps to the end go on from where any other steps from the same start come to.
pub record GoesOn (p : Program) (input : List ℤ) (events others : List Event) (after : List Stmt) (cells final_cells : List ℤ) : Type 0 where
  pub more : List Event
  pub path : Goes p input after cells more [] final_cells
  pub is : events ≡ others ++ more

module _ {p : Program} {input : List ℤ} where
  pub first_of : {to_do : List Stmt} {cells : List ℤ} {events : List Event} {after : List Stmt} {then_cells : List ℤ} →
      Goes p input to_do cells events after then_cells → (x : Stmt) (rest : List Stmt) → to_do ≡ x ∷ rest → after ≡ [] →
      First p input x rest cells events after then_cells
  first_of stays x rest is end = absurd (cc)
  first_of (goes {x = y} {rest = tail} {cells = cells} {v = v} {events = more} {after = after} {then_cells = then_cells} gave path) x rest is end =
      let here : y ≡ x = cc in
      let behind : tail ≡ rest = cc in
      rw (← here, ← behind) (record { v = v; more = more; gave = gave; events_are = refl; path = path })

  pub goes_on : {to_do : List Stmt} {cells : List ℤ} {others : List Event} {after : List Stmt} {then_cells : List ℤ} →
      Goes p input to_do cells others after then_cells → (events : List Event) (final_cells : List ℤ) → Goes p input to_do cells events [] final_cells →
      GoesOn p input events others after then_cells final_cells
  goes_on stays events final_cells whole = record { more = events; path = whole; is = refl }
  goes_on (goes {x = x} {rest = rest} {cells = cells} {v = v} gave path) events final_cells whole =
      let q = first_of whole x rest refl refl in
      let same : q.v ≡ v = cc (gave, q.gave) in
      let r = goes_on path q.more final_cells (subst (λ (w : WithLoads Effect). Goes p input (followed x rest (out-Stmt x) (value_of w.value))
      (stored w.value cells) q.more [] final_cells) same q.path) in
      record {
        more = r.more;
        path = r.path;
        is = q.events_are ∙ ap (λ (w : WithLoads Effect). event_of (out-Stmt x) w ∷ q.more) same ∙ ap (λ (es : List Event).
            event_of (out-Stmt x) v ∷ es) r.is;
      }

  -- at the end nothing more comes
  pub no_more : {to_do : List Stmt} {cells : List ℤ} {events : List Event} {after : List Stmt} {then_cells : List ℤ} →
      Goes p input to_do cells events after then_cells → to_do ≡ [] → events ≡ []
  no_more stays e = refl
  no_more (goes gave path) e = absurd (cc)

  -- the effects in order lead from the first memory to the last
  pub goes_applied : {to_do : List Stmt} {cells : List ℤ} {events : List Event} {after : List Stmt} {then_cells : List ℤ} →
      Goes p input to_do cells events after then_cells → then_cells ≡ applied (map effect_in events) cells
  goes_applied stays = refl
  goes_applied (goes gave path) = goes_applied path

-- what holds of the sites of well-nested statements holds of the sites of their events
pub events_at : (p : Program) (plan : Plan) {input : List ℤ} (Q : Access → Type 0) {to_do : List Stmt} {cells : List ℤ} {events : List Event}
    {after : List Stmt} {then_cells : List ℤ} → Goes p input to_do cells events after then_cells →
    all_well p plan to_do ≡ true → Each Q (accesses_all to_do) → Each (λ event. (u : Access) × (u.site ≡ event.site) × Q u) events
events_at p plan Q stays w each = tt
events_at p plan Q (goes {x = x} {rest = rest} {v = v} e path) w each =
    let parts = and_parts (well_nested p plan x) (all_well p plan rest) w in
    let both = each_split Q (accesses x) (accesses_all rest) each in
    let head : well_at p plan (out-Stmt x) ≡ true = sym (well_out p plan x) ∙ parts.0 in
    let here = subst (λ (xs : List Access). Each Q xs) (accesses_out x) both.0 in (
      (head_access (out-Stmt x), refl, head_fact Q p plan (out-Stmt x) head here),
      events_at p plan Q path
          (followed_has (λ xs. all_well p plan xs ≡ true) (all_joins (well_nested p plan)) x rest (out-Stmt x) (value_of v.value) w parts.1
          (well_parts p plan (out-Stmt x) head))
          (followed_has (λ xs. Each Q (accesses_all xs)) (each_joins Q) x rest (out-Stmt x) (value_of v.value) each both.1 (each_parts Q (out-Stmt x) here)),
    )

module _ {p : Program} {plan : Plan} (a : Accepted p plan) (input : List ℤ) where
  abbrev Other : Access → Type 0
  Other u = u.site ≡ first_site p plan → ⊥

  -- events at other sites than the region's condition close where they leave
  closing_kept : (events : List Event) → Each (λ event. (u : Access) × (u.site ≡ event.site) × Other u) events → (closing : Bool) →
      closing_after p plan closing events ≡ (closing || list_any is_leaving events)
  closing_kept [] other closing = sym (or-false closing)
  closing_kept (event ∷ rest) other closing =
      ap (λ (b : Bool). closing_after p plan (closing || ((b && is_zero (value_of event.effect)) || leaves event.effect)) rest)
      (ne_eqb event.site (first_site p plan) (λ e. other.0.2 (other.0.1 ∙ e)))
      ∙ closing_kept rest other.1 (closing || leaves event.effect) ∙ or_assoc closing (leaves event.effect) (list_any is_leaving rest)

  zero_first : (v : WithLoads Effect) (z : ℤ) (site : ℕ) → v.value ≡ Decided z →
      is_zero (value_of v.value) ≡ decided_zero (Some (record { site = site; loads = v.loads; effect = v.value }))
  zero_first v z site d =
      ap (λ (f : Effect). is_zero (value_of f)) d ∙ sym (ap (λ (f : Effect). decided_zero (Some (record { site = site; loads = v.loads; effect = f }))) d)

  -- An iteration closes where its first event is a condition of 0 or a break is taken.
  pub closing_first : {to_do : List Stmt} {cells : List ℤ} {events : List Event} {after : List Stmt} {then_cells : List ℤ} →
      Goes p input to_do cells events after then_cells → to_do ≡ turn_of a →
      closing_after p plan false events ≡ closes events
  closing_first stays is = refl
  closing_first (goes {x = x} {rest = rest} {cells = cells} {v = v} {events = more} {after = after} {then_cells = then_cells} e path) is =
      let here : x ≡ tree.If a.site a.cond a.body [] = cc in
      let none : rest ≡ [] = cc in
      let head : out-Stmt x ≡ If a.site a.cond a.body [] = ap out-Stmt here ∙ outs-If a.site a.cond a.body [] in
      let d = decided_is (eval p input cells a.cond) v (ap (evaluated p input cells) (sym head) ∙ e) in
      let next : followed x rest (out-Stmt x) (value_of v.value) ≡ choose (value_of v.value) a.body [] =
      ap (λ (h : Stmt-F Stmt). followed x rest h (value_of v.value)) head ∙ ap (λ (ys : List Stmt). choose (value_of v.value) a.body [] ++ ys) none
      ∙ append-nil (choose (value_of v.value) a.body []) in
      closing_kept more (events_at p plan Other (subst (λ (ys : List Stmt). Goes p input ys (stored v.value cells) more after then_cells) next path)
      (chosen_well (is_zero (value_of v.value))) (chosen_other (is_zero (value_of v.value))))
      (false || closes_at (first_site p plan) (site_of (out-Stmt x)).0 v.value)
      ∙ ap (λ (b : Bool). (false || ((b && is_zero (value_of v.value)) || leaves v.value)) || list_any is_leaving more)
      (eq-eqb (site_of (out-Stmt x)).0 (first_site p plan) (ap (λ (h : Stmt-F Stmt). (site_of h).0) head ∙ sym a.first))
      ∙ ap (λ (b : Bool). (false || (b || leaves v.value)) || list_any is_leaving more) (zero_first v d.0 (site_of (out-Stmt x)).0 d.1)
      ∙ or_assoc (decided_zero (Some (record { site = (site_of (out-Stmt x)).0; loads = v.loads; effect = v.value }))) (leaves v.value)
      (list_any is_leaving more)
    where
      chosen_well : (b : Bool) → all_well p plan (if b then [] else a.body) ≡ true
      chosen_well true = refl
      chosen_well false = a.well

      chosen_other : (b : Bool) → Each Other (accesses_all (if b then [] else a.body))
      chosen_other true = tt
      chosen_other false = a.inner
