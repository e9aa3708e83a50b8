-- What a site loads is no cell into which a site that lies apart from it stored.
use Rattle.dp_semantics.proofs.Names.{Decides-int_eq, int_eq, ◌≡◌, inl, inr, refl, sym, ap, ◌∙◌, subst, ℕ, ◌-◌, ◌≤◌, ◌==◌, Bool, true, false, ◌&&◌, ◌||◌, not}
use Rattle.dp_semantics.proofs.Names.{List, [], ◌∷◌, ◌++◌, ℤ, pos, length, Option, Some, None, Ok, is_some, arith, both_ways, cases_Bool, cases_eq, eqb-true}
use Rattle.dp_semantics.proofs.Names.{eq-eqb, not-true, and-false, list_all, list_any, flat_map, flat_map-append, append-nil, slice_get, and_parts, Stmt-F}
use Rattle.dp_semantics.proofs.Names.{Assign, Region, Stmt, out-Stmt, site_of, Program, Plan, WithLoads, Load, Stored, Past, Access, accesses, region_in}
use Rattle.dp_semantics.proofs.Names.{region_accesses, stores_var, is_same_variable, is_local, evaluated}
use Rattle.std.specs.Prelude.{◌+ℤ◌}
use Rattle.std.proofs.lemmas.Int.{ints}
use Rattle.std.proofs.Common.{count_by}
use Rattle.dp_tree.specs.Numbering.{numbers_from}
use Rattle.dp_semantics.proofs.Setting.{Accepted, Each, each_map, each_split, each_join, each_both, all_of, none_make, accesses_all, accesses_at, accesses_out}
use Rattle.dp_semantics.proofs.Setting.{head_access, Clear, ClearSame, NotInto, NeverMet, turn_of}
use Rattle.dp_semantics.proofs.Ways.{Here}
use Rattle.dp_plan.specs.Touch.{Touch, stride_of}
use Rattle.dp_plan.specs.IsFar.{SiteTouch, touch_passes, touches, is_stored, stored_at, passes_with, halves_pass, halves, region_condition, region_body}
use Rattle.dp_plan.specs.IsFar.{moves_alone, is_scalar_entry, apart_by, by_place, is_far, is_far_within, front_touches, back_touches}
use Rattle.dp_plan.specs.Checked.{comes_before}
use Rattle.dp_theorem.proofs.Far.{times}
use Rattle.dp_theorem.proofs.Touches.{touches_all, touches_at, touches_out}
use Rattle.dp_theorem.proofs.Passing.{Stride, never_between}
use Rattle.dp_theorem.proofs.Tested.{any_found, stride_data, Found, found, accesses_body, mover_is, stores, front_none, back_none, moving}
use Rattle.dp_theorem.proofs.Unmet.{all_unmet}
use Rattle.dp_theorem.proofs.TextBefore.{in_order}
use Rattle.dp_plan.proofs.EachLemmas.{every}

-- a store with an index
abbrev has_index : Option Touch → Bool
has_index None = false
has_index (Some t) = is_some t.index

-- where the site is d, it stores by an index
abbrev indexed : ℕ → SiteTouch → Bool
indexed d t = not (t.site == d) || has_index t.store

abbrev AllIndexed : ℕ → List SiteTouch → Type 0
AllIndexed d ts = Each (λ t. indexed d t ≡ true) ts

no_place : (s : _) (v : ℕ) (shift : ℤ) (o : Option Touch) → is_stored s (stored_at v shift o) ≡ true → has_index o ≡ true
no_place s v shift None e = absurd (cc)
no_place s v shift (Some t) e = by t.index t.variable e
  where
    by : (o : _) (x : ℕ) → is_stored s (stored_at v shift (Some (record { variable = x; index = o }))) ≡ true → is_some o ≡ true
    by None x e = absurd (cc)
    by (Some i) x e = refl

passes_indexed : (test : ℤ → ℤ → Bool) (v d u : ℕ) (s : _) (shift : ℤ) (t : SiteTouch) → touch_passes test v d u s shift t ≡ true → indexed d t ≡ true
passes_indexed test v d u s shift t e = by (t.site == d) (and_parts (not (t.site == d) || is_stored s (stored_at v shift t.store)) _ e).0
  where
    by : (b : Bool) → (not b || is_stored s (stored_at v shift t.store)) ≡ true → (not b || has_index t.store) ≡ true
    by true e = no_place s v shift t.store e
    by false e = refl

-- an assignment to v has no index
mover_unindexed : (v : ℕ) (h : Stmt-F Stmt) (k : ℤ) → stride_of v h ≡ Some k → Each (λ t. indexed (site_of h).0 t ≡ true) (touches_at h) → ⊥
mover_unindexed v (Assign site x e) k t q = let clash : false ≡ true = sym (ap (λ (b : Bool). not b || false) (eq-eqb site.0 site.0 refl))
    ∙ q.0 in absurd (cc clash)
mover_unindexed v _ k t q = absurd (cc)

stored_var : (v : ℕ) (o : Option ℕ) → is_same_variable v o ≡ true → o ≡ Some v
stored_var v None e = absurd (cc)
stored_var v (Some y) e = ap (λ (n : ℕ). Some n) (sym (eqb-true v y e))

module _ {p : Program} {plan : Plan} (a : Accepted p plan) where
  abbrev r : ℕ
  r = plan.region

  -- what passes the test is found
  pub record Passing (test : ℤ → ℤ → ℤ → Bool) (d u v : ℕ) : Type 0 where
    pub f : Found a test d u v
    pub one : count_by (λ (c : Access). stores_var v c) (flat_map accesses (region_in p r)) ≡ 1
    pub outer : is_local r (slice_get p.vars v) ≡ false

  pub passing : (test : ℤ → ℤ → ℤ → Bool) (d u v : ℕ) → passes_with test p r d u v ≡ true → Passing test d u v
  passing test d u v e =
      let both = and_parts (moves_alone p r v) (halves_pass test v d u (region_condition p r) (halves v (region_body p r))) e in
      let alone = and_parts (is_scalar_entry (slice_get p.vars v)) _ both.0 in
      let more = and_parts (not (is_local r (slice_get p.vars v))) (count_by (stores_var v) (flat_map accesses (region_in p r)) == 1) alone.1 in
      record { f = found a test d u v both.1; one = eqb-true _ 1 more.1; outer = not-true (is_local r (slice_get p.vars v)) more.0 }

  -- a site that stores by an assignment at the top is far from none
  never_far : (d w : ℕ) (v : ℕ) (mover : Stmt) (k : ℤ) (front back : List Stmt) → a.body ≡ front ++ mover ∷ back → stride_of v (out-Stmt mover) ≡ Some k →
      (site_of (out-Stmt mover)).0 ≡ d → is_far p r d w ≡ true → ⊥
  never_far d w v mover k front back body stride site far =
      mover_unindexed v (out-Stmt mover) k stride (subst (λ (n : ℕ). Each (λ t. indexed n t ≡ true) (touches_at (out-Stmt mover))) (sym site)
      (subst (λ (ts : List SiteTouch). Each (λ t. indexed d t ≡ true) ts) (touches_out mover) here))
    where
      found_by : (v : ℕ) × (passes_with apart_by p r d w v ≡ true)
      found_by = any_found (passes_with apart_by p r d w) (numbers_from 0 (length p.vars)) far

      q : Passing apart_by d w found_by.0
      q = passing apart_by d w found_by.0 found_by.1

      of_tests : (shift : ℤ) (ts : List SiteTouch) → list_all (touch_passes (apart_by q.f.h.stride) found_by.0 d w q.f.s shift) ts ≡ true → AllIndexed d ts
      of_tests shift ts e = each_map _ (λ t. indexed d t ≡ true) (λ t h. passes_indexed (apart_by q.f.h.stride) found_by.0 d w q.f.s shift t h) ts
          (all_of (touch_passes (apart_by q.f.h.stride) found_by.0 d w q.f.s shift) ts e)

      in_front : AllIndexed d (touches_all q.f.h.front) × AllIndexed d (touches q.f.h.mover)
      in_front = each_split _ (touches_all q.f.h.front) (touches q.f.h.mover)
          (each_split _ (Rattle.dp_theorem.proofs.Tested.condition a apart_by d w found_by.0) (touches_all q.f.h.front ++ touches q.f.h.mover)
          (of_tests (pos 0) (front_touches (Rattle.dp_theorem.proofs.Tested.condition a apart_by d w found_by.0) q.f.h) q.f.front)).1

      in_body : AllIndexed d (touches_all a.body)
      in_body = subst (λ (ts : List SiteTouch). AllIndexed d ts)
          (sym (ap touches_all q.f.split.is ∙ flat_map-append touches q.f.h.front (q.f.h.mover ∷ q.f.h.back)))
          (each_join _ (touches_all q.f.h.front) (touches q.f.h.mover ++ touches_all q.f.h.back) in_front.0
          (each_join _ (touches q.f.h.mover) (touches_all q.f.h.back) in_front.1 (of_tests q.f.h.stride (back_touches q.f.h) q.f.back)))

      here : AllIndexed d (touches mover)
      here = (each_split _ (touches mover) (touches_all back) (each_split _ (touches_all front) (touches mover ++ touches_all back)
          (subst (λ (ts : List SiteTouch). AllIndexed d ts) (ap touches_all body ∙ flat_map-append touches front (mover ∷ back)) in_body)).1).0

  module _ (test : ℤ → ℤ → ℤ → Bool) (d u v : ℕ) (q : Passing test d u v) where
    abbrev mover : Stmt
    mover = q.f.h.mover

    -- another site that stores v
    abbrev other : Access → Bool
    other c = stores_var v c && not (c.site == (site_of (out-Stmt mover)).0)

    not_other : (c : Access) → (c.stores ≡ Some v → ⊥) → other c ≡ false
    not_other c n = elim (cases_Bool (stores_var v c)) [
      | inl t ↦ absurd (n (stored_var v c.stores t))
      | inr f ↦ ap (λ (b : Bool). b && not (c.site == (site_of (out-Stmt mover)).0)) f
    ]

    all_is : region_accesses p plan ≡ head_access (Region plan.region a.site a.cond a.body) ∷ accesses_all a.body
    all_is = ap (λ (xs : List Stmt). flat_map accesses xs) a.region ∙ append-nil (accesses a.statement) ∙ accesses_out a.statement ∙ ap accesses_at a.is

    none_other : list_any other (region_accesses p plan) ≡ false
    none_other = none_make other (region_accesses p plan) (subst (λ (xs : List Access). Each (λ c. other c ≡ false) xs) (sym all_is) (
      refl,
      subst (λ (xs : List Access). Each (λ c. other c ≡ false) xs) (sym (accesses_body a test d u v q.f q.one))
          (each_join _ (accesses_all q.f.h.front) (accesses mover ++ accesses_all q.f.h.back) (each_map _ _ not_other (accesses_all q.f.h.front)
          (front_none a test d u v q.f q.one))
          (each_join _ (accesses mover) (accesses_all q.f.h.back) (subst (λ (xs : List Access). Each (λ c. other c ≡ false) xs)
          (sym (mover_is a test d u v q.f q.one)) (itself, tt)) (each_map _ _ not_other (accesses_all q.f.h.back) (back_none a test d u v q.f q.one)))),
    ))
      where
        itself : other (head_access (out-Stmt mover)) ≡ false
        itself = ap (λ (b : Bool). stores_var v (head_access (out-Stmt mover)) && not b) (eq-eqb (site_of (out-Stmt mover)).0 (site_of (out-Stmt mover)).0 refl)
            ∙ and-false (stores_var v (head_access (out-Stmt mover)))

    -- the variable that indices move with is clear
    clear : (w : ℕ) → Clear p plan w v
    clear w c listed storing = elim (cases_Bool (is_far p r c.site w)) [
      | inl t ↦ absurd (never_far c.site w v mover q.f.h.stride q.f.h.front q.f.h.back q.f.split.is q.f.split.stride
          (sym (at_mover (c.site == (site_of (out-Stmt mover)).0) refl (listed other none_other))) t)
      | inr f ↦ f
    ]
      where
        at_mover : (b : Bool) → (c.site == (site_of (out-Stmt mover)).0) ≡ b → other c ≡ false → c.site ≡ (site_of (out-Stmt mover)).0
        at_mover true e h = eqb-true c.site (site_of (out-Stmt mover)).0 e
        at_mover false e h = let clash : true ≡ false = sym (ap (λ (t : Bool). t && not (c.site == (site_of (out-Stmt mover)).0)) storing ∙ ap not e)
            ∙ h in absurd (cc clash)

each_every : {D X : Type 0} (Q : D → X → Type 0) (xs : List X) → ((d : D) → Each (Q d) xs) → Each (λ x. (d : D) → Q d x) xs
each_every Q [] h = tt
each_every Q (x ∷ xs) h = ((λ d. (h d).0), each_every Q xs (λ d. (h d).1))

module _ {p : Program} {plan : Plan} (a : Accepted p plan) (input : List ℤ) (i : ℕ) (x : Stmt) (rest : List Stmt) (earlier : List Past) (cells : List ℤ)
    (h : Here p input plan.region (turn_of a) i (x ∷ rest) earlier cells) (one : List ℤ) (w : WithLoads _) (gave : evaluated p input one (out-Stmt x) ≡ Ok w)
    (same : ClearSame p plan one cells (out-Stmt x)) where
  abbrev reg : ℕ
  reg = plan.region

  abbrev u : ℕ
  u = (site_of (out-Stmt x)).0

  -- a past store at site d isn't to this cell, where the test's places never meet
  abbrev Unlike : (ℤ → ℤ → ℤ → Bool) → ℕ → Load → Past → Type 0
  Unlike test d l past = past.event.site ≡ d → (past.iteration ≤ i → (k stored o : ℤ) → Stride k → test k stored o ≡ true →
      stored ≡ o +ℤ times (i - past.iteration) k → ⊥) → (z : ℤ) → past.event.effect ≡ Stored l.cell z → ⊥

  unlike : (test : ℤ → ℤ → ℤ → Bool) (d : ℕ) → list_any (passes_with test p reg d u) (numbers_from 0 (length p.vars)) ≡ true →
      Each (λ (l : Load). Each (Unlike test d l) earlier) w.loads
  unlike test d e =
      let v = any_found (passes_with test p reg d u) (numbers_from 0 (length p.vars)) e in
      let q = passing a test d u v.0 v.1 in
      each_map _ (λ (l : Load). Each (Unlike test d l) earlier)
      (λ l es. each_map _ (Unlike test d l) (λ past un at never z stores. un at (λ order o loaded s. never order q.f.h.stride q.f.s.place o
      (stride_data v.0 (out-Stmt q.f.h.mover) q.f.h.stride q.f.split.stride) loaded s) z stores) earlier es) w.loads
      (all_unmet a input v.0 q.f.h.stride q.outer d u q.f.s.array q.f.s.place (λ place. test q.f.h.stride q.f.s.place place ≡ true)
      (moving a test d u v.0 q.f q.one input) h refl one w gave same (clear a test d u v.0 q u))

  abbrev Carried : Load → Past → Type 0
  Carried l past = is_far p reg past.event.site u ≡ true → (past.iteration ≡ i → ⊥) → (z : ℤ) → past.event.effect ≡ Stored l.cell z → ⊥

  abbrev Within : Load → Past → Type 0
  Within l past = is_far_within p reg past.event.site u ≡ true → past.iteration ≡ i → (z : ℤ) → past.event.effect ≡ Stored l.cell z → ⊥

  -- for every site at once
  at_every : (Q : ℕ → Load → Past → Type 0) → ((d : ℕ) → Each (λ (l : Load). Each (Q d l) earlier) w.loads) →
      Each (λ (l : Load). Each (λ past. Q past.event.site l past) earlier) w.loads
  at_every Q f = each_map (λ (l : Load). (d : ℕ) → Each (Q d l) earlier) _ (λ l q. each_map (λ past. (d : ℕ) → Q d l past) (λ past. Q past.event.site l past)
      (λ past g. g past.event.site) earlier (each_every (λ d past. Q d l past) earlier q)) w.loads
      (each_every (λ d l. Each (Q d l) earlier) w.loads f)

  nowhere : (Q : Load → Past → Type 0) → ((l : Load) (past : Past) → Q l past) → Each (λ (l : Load). Each (Q l) earlier) w.loads
  nowhere Q f = every (λ (l : Load). Each (Q l) earlier) (λ l. every (Q l) (f l) earlier) w.loads

  carried_at : (d : ℕ) → Each (λ (l : Load). Each (λ past. past.event.site ≡ d → is_far p reg d u ≡ true → (past.iteration ≡ i → ⊥) → (z : ℤ) →
      past.event.effect ≡ Stored l.cell z → ⊥) earlier) w.loads
  carried_at d = elim (cases_Bool (is_far p reg d u)) [
    | inl t ↦ each_map (λ (l : Load). Each (Unlike apart_by d l) earlier) _ (λ l es. each_map (Unlike apart_by d l) _ (λ past un at far other z stores. un at
        (λ order k stored o stride passed s. never_between k stored o stride passed (i - past.iteration) (omega (arith, order, other)) s) z stores) earlier es)
        w.loads (unlike apart_by d t)
    | inr f ↦ nowhere _ (λ l past at far other z stores. both_ways (is_far p reg d u) f far)
  ]

  within_at : (d : ℕ) → Each (λ (l : Load). Each (λ past. past.event.site ≡ d → is_far_within p reg d u ≡ true → past.iteration ≡ i → (z : ℤ) →
      past.event.effect ≡ Stored l.cell z → ⊥) earlier) w.loads
  within_at d = elim (cases_Bool (is_far_within p reg d u)) [
    | inl t ↦ each_map (λ (l : Load). Each (Unlike by_place d l) earlier) _ (λ l es. each_map (Unlike by_place d l) _ (λ past un at far now z stores. un at
        (λ order k stored o stride passed s.
        let none : i - past.iteration ≡ 0 = omega (arith, now) in
        let equal : stored ≡ o = s ∙ ap (λ (n : ℕ). o +ℤ times n k) none ∙ omega (arith, ints) in
        both_ways (int_eq stored o) (not-true (int_eq stored o) passed) (ap (λ (y : ℤ). int_eq y o) equal ∙ (Decides-int_eq o o).1 refl)) z stores) earlier es)
        w.loads (unlike by_place d t)
    | inr f ↦ nowhere _ (λ l past at far now z stores. both_ways (is_far_within p reg d u) f far)
  ]

  carried : Each (λ (l : Load). Each (Carried l) earlier) w.loads
  carried = each_map _ _ (λ l es. each_map _ (Carried l) (λ past g. g refl) earlier es) w.loads (at_every (λ d l past. past.event.site ≡ d →
      is_far p reg d u ≡ true → (past.iteration ≡ i → ⊥) → (z : ℤ) → past.event.effect ≡ Stored l.cell z → ⊥) carried_at)

  within : Each (λ (l : Load). Each (Within l) earlier) w.loads
  within = each_map _ _ (λ l es. each_map _ (Within l) (λ past g. g refl) earlier es) w.loads (at_every (λ d l past. past.event.site ≡ d →
      is_far_within p reg d u ≡ true → past.iteration ≡ i → (z : ℤ) → past.event.effect ≡ Stored l.cell z → ⊥) within_at)

  -- the past event isn't one of this iteration whose site comes behind
  abbrev pub InOrder : Past → Type 0
  InOrder past = comes_before p reg u past.event.site ≡ true → past.iteration ≡ i → ⊥

  pub all_apart : Each InOrder earlier → Each (λ (l : Load). Each (NotInto p reg u i l.cell) earlier) w.loads
  all_apart order = each_map (λ (l : Load). Each (Carried l) earlier × Each (Within l) earlier) _
      (λ l q. each_map (λ past. Carried l past × (Within l past × InOrder past)) (NotInto p reg u i l.cell) (one_apart l) earlier
      (each_both (Carried l) (λ past. Within l past × InOrder past) earlier q.0 (each_both (Within l) InOrder earlier q.1 order))) w.loads
      (each_both (λ (l : Load). Each (Carried l) earlier) (λ (l : Load). Each (Within l) earlier) w.loads carried within)
    where
      one_apart : (l : Load) (past : Past) → Carried l past × (Within l past × InOrder past) → NotInto p reg u i l.cell past
      one_apart l past q lies z stores = elim (cases_eq past.iteration i) [
        | inl now ↦ elim (cases_Bool (is_far_within p reg past.event.site u)) [
          | inl t ↦ q.1.0 t now z stores
          | inr f ↦ q.1.1 (ap (λ (b : Bool). b || comes_before p reg u past.event.site) (sym f) ∙ lies.within now) now
        ]
        | inr other ↦ q.0 lies.far other z stores
      ]

pub never_met : {p : Program} {plan : Plan} (a : Accepted p plan) (input : List ℤ) → NeverMet p plan a input
never_met a input i x rest earlier cells h one w gave same =
    all_apart a input i x rest earlier cells h one w gave same
    (each_map _ (InOrder a input i x rest earlier cells h one w gave same) (λ past f before now. f past.event.site refl before now) earlier
    (each_every _ earlier (in_order a input i x rest earlier cells h)))
