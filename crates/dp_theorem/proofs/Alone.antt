-- The events of a region's iterations are at the region's sites, where it stands alone among the statements of `main`.
use Rattle.dp_semantics.proofs.Names.{Break, Effect, ◌⊎◌, leaves, upto_leaving, taken, taken_left, behind_region, behind_one, region_number, after_effect}
use Rattle.dp_semantics.proofs.Names.{stored_by, ◌≡◌, refl, sym, ap, ◌∙◌, subst, ℕ, zero, suc, ◌-◌, Bool, true, false, if◌then◌else◌, List, [], ◌∷◌, ◌++◌, ℤ}
use Rattle.dp_semantics.proofs.Names.{take, filter, Option, Some, None, slice_get, arith, both_ways, Program, Stmt, out-Stmt, Stmt-F, Assign, Store, Print, If}
use Rattle.dp_semantics.proofs.Names.{While, Region, Call, SiteId, Expr, Event, Config, Step, Finished, Faulted, Stepped, Run, run_of, run_by, is_zero}
use Rattle.dp_semantics.proofs.Names.{followed, value_of, standing, step, cleared_at, is_region, stands_at_head, places, Access, accesses, is_free, and_parts}
use Rattle.dp_semantics.proofs.Names.{followed-append, inl, inr, cases_Bool}
use Rattle.dp_semantics.proofs.Setting.{size, Each, each_split, accesses_all, accesses_at, accesses_out, head_access, all_free, followed_has}
use Rattle.dp_tree.proofs.Heads.{left-append}
use Rattle.dp_semantics.proofs.Followed.{left_has, all_joins}
use Rattle.dp_theorem.proofs.Placed.{leaves_taken, never, first_place, At, free_next, not_at_head, is_step, run_step, Leads, step_leads, run_first}
use Rattle.dp_theorem.proofs.Stepping.{each_joins, each_parts}

-- an element that a filter finds passes the test
pub found_is : {X : Type 0} (test : X → Bool) (xs : List X) (x : X) → filter test xs ≡ x ∷ [] → test x ≡ true
found_is test [] x e = absurd (cc)
found_is test (y ∷ xs) x e = elim (cases_Bool (test y)) [
  | inl t ↦ let found : y ∷ filter test xs ≡ x ∷ [] = rw t at e in let same : y ≡ x = cc found in rw (← same) t
  | inr t ↦ found_is test xs x (rw t at e)
]

-- region r as a statement of `main`, with what holds of its sites
pub record Lone (p : Program) (r : ℕ) (Q : Access → Type 0) : Type 0 where
  pub statement : Stmt
  pub front : List Stmt
  pub tail : List Stmt
  pub at : is_region r (out-Stmt statement) ≡ true
  pub main : p.main ≡ front ++ statement ∷ tail
  pub front_free : all_free r front ≡ true
  pub tail_free : all_free r tail ≡ true
  pub sites : Each Q (accesses statement)

-- the event is at a site where Q holds
abbrev pub AtSite : (Access → Type 0) → Event → Type 0
AtSite Q event = (u : Access) × (u.site ≡ event.site) × Q u

own_fact : (Q : Access → Type 0) (h : Stmt-F Stmt) → is_step h ≡ true → Each Q (accesses_at h) → Q (head_access h)
own_fact Q (Call f line args) s e = absurd (cc)
own_fact Q (Assign site v e) s f = f.0
own_fact Q (Store site v index e) s f = f.0
own_fact Q (Print site e) s f = f.0
own_fact Q (If site cond a b) s f = f.0
own_fact Q (While site cond a) s f = f.0
own_fact Q (Region r site cond a) s f = f.0
own_fact Q (Break site cond) s f = f.0

-- the region's parts
pub record Parts (r : ℕ) (h : Stmt-F Stmt) : Type 0 where
  pub number : ℕ
  pub site : SiteId
  pub cond : Expr
  pub body : List Stmt
  pub is : h ≡ Region number site cond body

parts_of : (r : ℕ) (h : Stmt-F Stmt) → is_region r h ≡ true → Parts r h
parts_of r (Region q site cond body) e = record { number = q; site = site; cond = cond; body = body; is = refl }
parts_of r _ e = absurd (cc)

-- what is left to do: before the region, within it, or beyond it
pub data Around (Q : Access → Type 0) (r : ℕ) (behind : List Stmt) (to_do : List Stmt) : Type 0 where
  ahead : (inner : List Stmt) → to_do ≡ inner ++ behind → all_free r inner ≡ true → Around Q r behind to_do
  inside : (inner : List Stmt) → to_do ≡ inner ++ behind → Each Q (accesses_all inner) → Around Q r behind to_do
  beyond : all_free r to_do ≡ true → Around Q r behind to_do

-- the events before a place, counted from n, or those up to and with a break that is taken
abbrev pub upto : ℕ → Option ℕ → List Event → List Event
upto n None events = upto_leaving events
upto n (Some k) events = take (k - n) events

module _ {p : Program} {r : ℕ} {Q : Access → Type 0} (l : Lone p r Q) (input : List ℤ) where
  abbrev pub behind : List Stmt
  behind = l.statement ∷ l.tail

  abbrev pub Sites : List Event → Type 0
  Sites events = Each (AtSite Q) events

  pub each_take : (k : ℕ) (events : List Event) → Sites events → Sites (take k events)
  each_take zero events h = tt
  each_take (suc k) [] h = tt
  each_take (suc k) (event ∷ events) h = (h.0, each_take k events h.1)

  none_upto : (n : ℕ) (o : Option ℕ) → Sites (upto n o [])
  none_upto n None = tt
  none_upto n (Some k) = each_take (k - n) [] tt

  pub one_upto : (n : ℕ) (o : Option ℕ) (event : Event) (events : List Event) → AtSite Q event → Sites (upto (suc n) o events) →
      Sites (upto n o (event ∷ events))
  one_upto n None event events q h = (q, by (leaves event.effect))
    where
      by : (b : Bool) → Sites (if b then [] else upto_leaving events)
      by true = tt
      by false = h
  one_upto n (Some k) event events q h = by (k - n) refl
    where
      by : (d : ℕ) → k - n ≡ d → Sites (take d (event ∷ events))
      by zero e = tt
      by (suc d) e = let less : k - suc n ≡ d = omega (arith, e) in (q, subst (λ (i : ℕ). Sites (take i events)) less h)

  pub region : Parts r (out-Stmt l.statement)
  region = parts_of r (out-Stmt l.statement) l.at

  pub body_sites : Each Q (accesses_all region.body)
  body_sites = (subst (λ (xs : List Access). Each Q xs) (accesses_out l.statement ∙ ap accesses_at region.is) l.sites).1

  after_region : (z : ℤ) → Around Q r behind (followed l.statement l.tail (out-Stmt l.statement) z)
  after_region z = elim (cases_Bool (is_zero z)) [
    | inl q ↦ rw (region.is, q) (beyond l.tail_free)
    | inr q ↦
        rw (region.is, q) (inside region.body refl body_sites)
  ]

  -- the sites of what follows within
  pub followed_sites : (x : Stmt) (inner : List Stmt) (z : ℤ) → Each Q (accesses_all (x ∷ inner)) → Each Q (accesses_all (followed x inner (out-Stmt x) z))
  followed_sites x inner z q =
      let both = each_split Q (accesses x) (accesses_all inner) q in
      followed_has (λ xs. Each Q (accesses_all xs)) (each_joins Q) x inner (out-Stmt x) z q both.1
      (each_parts Q (out-Stmt x) (subst (λ (xs : List Access). Each Q xs) (accesses_out x) both.0))

  -- those behind another region within
  left_sites : (x : Stmt) (inner : List Stmt) → Each Q (accesses_all (x ∷ inner)) → Each Q (accesses_all (behind_region inner))
  left_sites x inner q = left_has (λ xs. Each Q (accesses_all xs)) (each_joins Q) inner (each_split Q (accesses x) (accesses_all inner) q).1

  region_left : behind_region behind ≡ l.tail
  region_left = ap (λ (h : Stmt-F Stmt). behind_one (region_number h) l.tail (behind_region l.tail)) region.is

  pub around_next : (x : Stmt) (rest : List Stmt) (z : ℤ) → Around Q r behind (x ∷ rest) → Around Q r behind (followed x rest (out-Stmt x) z)
  around_next x rest z (beyond w) = beyond (free_next r x rest z w)
  around_next x rest z (ahead (y ∷ inner) e w) =
      let here : y ≡ x = cc in
      let more : inner ++ behind ≡ rest = cc in
      rw (← here, ← more) (elim (cases_Bool (taken (out-Stmt y) z)) [
        | inl t ↦ subst (Around Q r behind) (sym (taken_left y (inner ++ behind) (out-Stmt y) z t)) (elim (left-append inner behind) [
          | inl u ↦ ahead (behind_region inner) u (left_has (λ xs. all_free r xs ≡ true) (all_joins (is_free r)) inner
              (and_parts (is_free r y) (all_free r inner) w).1)
          | inr u ↦ subst (Around Q r behind) (sym (u ∙ region_left)) (beyond l.tail_free)
        ])
        | inr t ↦ ahead (followed y inner (out-Stmt y) z) (followed-append y inner behind (out-Stmt y) z t) (free_next r y inner z w)
      ])
  around_next x rest z (inside (y ∷ inner) e q) =
      let here : y ≡ x = cc in
      let more : inner ++ behind ≡ rest = cc in
      rw (← here, ← more) (elim (cases_Bool (taken (out-Stmt y) z)) [
        | inl t ↦ subst (Around Q r behind) (sym (taken_left y (inner ++ behind) (out-Stmt y) z t)) (elim (left-append inner behind) [
          | inl u ↦ inside (behind_region inner) u (left_sites y inner q)
          | inr u ↦ subst (Around Q r behind) (sym (u ∙ region_left)) (beyond l.tail_free)
        ])
        | inr t ↦ inside (followed y inner (out-Stmt y) z) (followed-append y inner behind (out-Stmt y) z t) (followed_sites y inner z q)
      ])
  around_next x rest z (ahead [] e w) = let here : l.statement ≡ x = cc in let more : l.tail ≡ rest = cc in rw (← here, ← more) (after_region z)
  around_next x rest z (inside [] e q) = let here : l.statement ≡ x = cc in let more : l.tail ≡ rest = cc in rw (← here, ← more) (after_region z)

  abbrev pub Spotted : Config → Type 0
  Spotted c = At p input (size p) (Around Q r behind) around_next c

  -- where the region's condition stands at the head, the run is within it
  pub within : (c : Config) → Spotted c → stands_at_head r c ≡ true → (inner : List Stmt) × (cells : List ℤ) × (c ≡ standing p (inner ++ behind) cells)
      × Each Q (accesses_all inner)
  within c (to_do, cells, is, around, long) head = by to_do around is (sym (ap (stands_at_head r) is) ∙ head)
    where
      by : (to_do : List Stmt) → Around Q r behind to_do → c ≡ standing p to_do cells → stands_at_head r (standing p to_do cells) ≡ true → (inner : List Stmt)
          × (cells : List ℤ) × (c ≡ standing p (inner ++ behind) cells) × Each Q (accesses_all inner)
      by [] around is head = absurd (cc)
      by (x ∷ rest) (beyond w) is head = absurd (both_ways (is_region r (out-Stmt x)) (not_at_head r x (and_parts (is_free r x) (all_free r rest) w).0) head)
      by (x ∷ rest) (ahead [] e w) is head = ([], cells, is ∙ ap (λ (ys : List Stmt). standing p ys cells) e, tt)
      by (x ∷ rest) (ahead (y ∷ inner) e w) is head =
          let here : y ≡ x = cc in
          absurd (both_ways (is_region r (out-Stmt x)) (not_at_head r x (ap (is_free r) (sym here) ∙ (and_parts (is_free r y) (all_free r inner) w).0)) head)
      by (x ∷ rest) (inside inner e q) is head = (inner, cells, is ∙ ap (λ (ys : List Stmt). standing p ys cells) e, q)

  pub site_of_step : (x : Stmt) (rest inner : List Stmt) (cells : List ℤ) (event : Event) (next : Config) → Leads p input x rest cells (Stepped event next) →
      Each Q (accesses x) → AtSite Q event
  site_of_step x rest inner cells event next leads q = (
    head_access (out-Stmt x),
    ap (λ (e : Event). e.site) (sym leads.2),
    own_fact Q (out-Stmt x) leads.3 (subst (λ (xs : List Access). Each Q xs)
        (accesses_out x) q),
  )

  abbrev Till : ℕ → ℕ → List Stmt → List ℤ → Type 0
  Till n m inner cells = Sites (upto n (slice_get (places (stands_at_head r) n (run_of p input m (standing p (inner ++ behind) cells)).configs) 0)
      (run_of p input m (standing p (inner ++ behind) cells)).trace)

  at_once : (n m : ℕ) (inner : List Stmt) (cells : List ℤ) → stands_at_head r (standing p (inner ++ behind) cells) ≡ true → Till n m inner cells
  at_once n m inner cells t =
      subst (λ (o : Option ℕ). Sites (upto n o (run_of p input m (standing p (inner ++ behind) cells)).trace))
      (sym (first_place (stands_at_head r) n (run_of p input m (standing p (inner ++ behind) cells)).configs _
      (run_first p input m (standing p (inner ++ behind) cells)) t))
      (let none : n - n ≡ 0 = omega arith in subst (λ (d : ℕ). Sites (take d (run_of p input m (standing p (inner ++ behind) cells)).trace)) (sym none) tt)

  none_run : (n : ℕ) (inner : List Stmt) (cells : List ℤ) → Till n 0 inner cells
  unfolding run_of
  none_run n inner cells = none_upto n _

  -- a run that ends at once, and one that makes a step where no start is
  ended_at : (n m : ℕ) (c : Config) (s : Step) → step p input c ≡ s → (run_by (run_of p input m) (suc m) c s).trace ≡ [] →
      Sites (upto n (slice_get (places (stands_at_head r) n (run_of p input (suc m) c).configs) 0) (run_of p input (suc m) c).trace)
  ended_at n m c s e none = subst (λ (es : List Event). Sites (upto n (slice_get (places (stands_at_head r) n (run_of p input (suc m) c).configs) 0) es))
      (sym (ap (λ (run : Run). run.trace) (run_step p input m c s e) ∙ none)) (none_upto n _)

  moved_on : (n m : ℕ) (c : Config) (event : Event) (next : Config) → step p input c ≡ Stepped event next → stands_at_head r c ≡ false → AtSite Q event →
      Sites (upto (suc n) (slice_get (places (stands_at_head r) (suc n) (run_of p input m next).configs) 0) (run_of p input m next).trace) →
      Sites (upto n (slice_get (places (stands_at_head r) n (run_of p input (suc m) c).configs) 0) (run_of p input (suc m) c).trace)
  moved_on n m c event next e off here later =
      subst (λ (run : Run). Sites (upto n (slice_get (places (stands_at_head r) n run.configs) 0) run.trace))
      (sym (run_step p input m c (Stepped event next) e))
      (subst (λ (b : Bool). Sites
      (upto n (slice_get (if b then n ∷ places (stands_at_head r) (suc n) (run_of p input m next).configs else places (stands_at_head r) (suc n)
      (run_of p input m next).configs) 0) (event ∷ (run_of p input m next).trace))) (sym off)
      (one_upto n (slice_get (places (stands_at_head r) (suc n) (run_of p input m next).configs) 0) event (run_of p input m next).trace here later))

  -- a break that leaves the region
  left_on : (n m : ℕ) (c : Config) (event : Event) (next : Config) (cells : List ℤ) → step p input c ≡ Stepped event next → stands_at_head r c ≡ false →
      AtSite Q event → leaves event.effect ≡ true → next ≡ standing p l.tail cells →
      Sites (upto n (slice_get (places (stands_at_head r) n (run_of p input (suc m) c).configs) 0) (run_of p input (suc m) c).trace)
  left_on n m c event next cells e off here out there =
      subst (λ (run : Run). Sites (upto n (slice_get (places (stands_at_head r) n run.configs) 0) run.trace))
      (sym (run_step p input m c (Stepped event next) e))
      (subst (λ (b : Bool). Sites
      (upto n (slice_get (if b then n ∷ places (stands_at_head r) (suc n) (run_of p input m next).configs else places (stands_at_head r) (suc n)
      (run_of p input m next).configs) 0) (event ∷ (run_of p input m next).trace))) (sym off)
      (subst (λ (ns : List ℕ). Sites (upto n (slice_get ns 0) (event ∷ (run_of p input m next).trace))) (sym nowhere)
      (here, subst (λ (b : Bool). Sites (if b then [] else upto_leaving (run_of p input m next).trace)) (sym out) tt)))
    where
      nowhere : places (stands_at_head r) (suc n) (run_of p input m next).configs ≡ []
      nowhere = ap (λ (d : Config). places (stands_at_head r) (suc n) (run_of p input m d).configs) there ∙ never p input r m (suc n) l.tail cells l.tail_free

  -- where a break is taken: the next one is another region's end within, or behind the region
  abbrev pub Left : Stmt → List Stmt → List ℤ → Effect → Config → Type 0
  Left x inner cells effect next = ((ys : List Stmt) × (then_cells : List ℤ) × (next ≡ standing p (ys ++ behind) then_cells) × Each Q (accesses_all ys))
      ⊎ ((then_cells : List ℤ) × (next ≡ standing p l.tail then_cells))

  pub left_at : (x : Stmt) (inner : List Stmt) (cells : List ℤ) (effect : Effect) (next : Config) → Each Q (accesses_all (x ∷ inner)) →
      taken (out-Stmt x) (value_of effect) ≡ true → next ≡ after_effect p x (inner ++ behind) cells (out-Stmt x) effect → Left x inner cells effect next
  left_at x inner cells effect next q t e =
      let then_cells = stored_by p (inner ++ behind) (out-Stmt x) effect cells in
      let away = taken_left x (inner ++ behind) (out-Stmt x) (value_of effect) t in
      elim (left-append inner behind) [
        | inl u ↦ inl (
          behind_region inner,
          stored_by p (inner ++ behind) (out-Stmt x) effect cells,
          e ∙ ap (λ (ys : List Stmt). standing p ys
              (stored_by p (inner ++ behind) (out-Stmt x) effect cells)) (away ∙ u),
          left_sites x inner q,
        )
        | inr u ↦ inr (
          stored_by p (inner ++ behind) (out-Stmt x) effect cells,
          e ∙ ap (λ (ys : List Stmt). standing p ys
              (stored_by p (inner ++ behind) (out-Stmt x) effect cells)) (away ∙ u ∙ region_left),
        )
      ]

  -- From within the region all events up to its next start are at its sites.
  pub till : (m n : ℕ) (inner : List Stmt) (cells : List ℤ) → Each Q (accesses_all inner) → Till n m inner cells
  till zero n inner cells q = none_run n inner cells
  till (suc m) n [] cells q = at_once n (suc m) [] cells l.at
  till (suc m) n (x ∷ inner) cells q = by (is_region r (out-Stmt x)) refl (step p input c) refl
      (step_leads p input x (inner ++ behind) (cleared_at p (out-Stmt x) cells)) (λ ys then_cells sites. till m (suc n) ys then_cells sites)
    where
      c : Config
      c = standing p (x ∷ (inner ++ behind)) cells

      by : (b : Bool) → is_region r (out-Stmt x) ≡ b → (s : Step) → step p input (standing p (x ∷ (inner ++ behind)) cells) ≡ s →
          Leads p input x (inner ++ behind) (cleared_at p (out-Stmt x) cells) s →
          ((ys : List Stmt) (then_cells : List ℤ) → Each Q (accesses_all ys) → Till (suc n) m ys then_cells) → Till n (suc m) (x ∷ inner) cells
      by true t s e leads go = at_once n (suc m) (x ∷ inner) cells t
      by false t Finished e leads go = ended_at n m (standing p (x ∷ (inner ++ behind)) cells) Finished e refl
      by false t (Faulted fault) e leads go = ended_at n m (standing p (x ∷ (inner ++ behind)) cells) (Faulted fault) e refl
      by false t (Stepped event next) e leads go = elim (cases_Bool (taken (out-Stmt x) (value_of leads.0.value))) [
        | inl u ↦ elim (left_at x inner (cleared_at p (out-Stmt x) cells) leads.0.value next q u leads.1) [
          | inl w ↦ moved_on n m (standing p (x ∷ (inner ++ behind)) cells) event next e t here (subst (λ (d : Config). Next d) (sym w.2) (go w.0 w.1 w.3))
          | inr w ↦ left_on n m (standing p (x ∷ (inner ++ behind)) cells) event next w.0 e t here (ap (λ (v : Event). leaves v.effect) leads.2
              ∙ leaves_taken p input x (inner ++ behind) (cleared_at p (out-Stmt x) cells) leads.0 leads.3 leads.4 ∙ u) w.1
        ]
        | inr u ↦
            let there : next ≡ standing p (followed x inner (out-Stmt x) (value_of leads.0.value) ++ behind)
            (stored_by p (inner ++ behind) (out-Stmt x) leads.0.value (cleared_at p (out-Stmt x) cells)) =
            leads.1 ∙ ap (λ (ys : List Stmt). standing p ys (stored_by p (inner ++ behind) (out-Stmt x) leads.0.value (cleared_at p (out-Stmt x) cells)))
            (followed-append x inner behind (out-Stmt x) (value_of leads.0.value) u) in
            moved_on n m (standing p (x ∷ (inner ++ behind)) cells) event next e t here (subst (λ (d : Config). Next d) (sym there)
            (go (followed x inner (out-Stmt x) (value_of leads.0.value)) (stored_by p (inner ++ behind) (out-Stmt x) leads.0.value
            (cleared_at p (out-Stmt x) cells)) (followed_sites x inner (value_of leads.0.value) q)))
      ]
        where
          Next : Config → Type 0
          Next d = Sites (upto (suc n) (slice_get (places (stands_at_head r) (suc n) (run_of p input m d).configs) 0) (run_of p input m d).trace)

          here : AtSite Q event
          here = site_of_step x (inner ++ behind) inner (cleared_at p (out-Stmt x) cells) event next leads (each_split Q (accesses x) (accesses_all inner) q).0
