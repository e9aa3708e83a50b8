-- Where nothing is hidden an iteration is clean or not wherever its epoch began, and a clean one of another plan with few steps is clean.
use Rattle.dp_semantics.proofs.Names.{◌≡◌, refl, sym, ap, ◌∙◌, inl, inr, ◌⊎◌, ℕ, ◌+◌, ◌≤◌, ◌==◌, Bool, true, false, not, ◌&&◌, ◌||◌, if◌then◌else◌, List, []}
use Rattle.dp_semantics.proofs.Names.{◌∷◌, ℤ, length, nat_le, arith, le-leb, eqb-true, subst, slice_get, sum_by, sum_by-cons, Program, Plan, Past, Event}
use Rattle.dp_semantics.proofs.Names.{Access, stage_of, is_checked, is_checked_access, region_accesses, event_words, word_count, fits_words, list_any, list_all}
use Rattle.dp_semantics.proofs.Names.{and_parts, and_from, or_parts, cases_Bool, leaves, is_leaving, is_closing, has_ended, iteration, memory_after}
use Rattle.dp_semantics.proofs.Names.{decided_zero, all_agree, events_since, event_as_assumed, goes_as, stays_late, is_clean}
use Rattle.dp_tree.specs.Trace.{Run}
use Rattle.dp_tree.specs.declared.Assume.{Assume}
use Rattle.dp_semantics.proofs.Each.{Each, none_of}
use Rattle.dp_semantics.proofs.Counts.{count_all}
use Rattle.dp_run_plan.specs.RunPlan.{hides_nothing, RunsFor, CleanAlike, CleanAnywhere}

not_true : (b : Bool) → not b ≡ true → b ≡ false
not_true false e = refl
not_true true e = absurd (cc)

-- ---- no site is checked

module _ (p : Program) (plan : Plan) (hides : hides_nothing p plan ≡ true) where
  not_here : (site : ℕ) (all : List Access) → Each (λ (a : Access). is_checked p plan a.site ≡ false) all → list_any (is_checked_access p plan site) all ≡ false
      ⊎ (is_checked p plan site ≡ false)
  not_here site [] h = inl refl
  not_here site (u ∷ all) h = elim (cases_Bool (u.site == site)) [
    | inl e ↦ inr (subst (λ (n : ℕ). is_checked p plan n ≡ false) (eqb-true u.site site e) h.0)
    | inr e ↦ elim (not_here site all h.1) [
      | inl none ↦ inl (rw (e, none) refl)
      | inr f ↦ inr f
    ]
  ]

  pub not_checked : (site : ℕ) → is_checked p plan site ≡ false
  not_checked site = elim (not_here site (region_accesses p plan) (none_of (λ (a : Access). is_checked p plan a.site) (region_accesses p plan)
      (not_true (list_any (λ (a : Access). is_checked p plan a.site) (region_accesses p plan)) hides))) [
        | inl none ↦ none
        | inr f ↦ f
      ]

  -- so each event agrees with the source
  pub agrees_freely : (base : List ℤ) (i : ℕ) (earlier : List Past) (events : List Event) → all_agree p plan base i earlier events ≡ true
  agrees_freely base i earlier [] = refl
  agrees_freely base i earlier (event ∷ rest) = rw (not_checked event.site) (agrees_freely base i (record { iteration = i; event = event } ∷ earlier) rest)

  -- .. and has one word
  one_each : (events : List Event) → sum_by (event_words p plan) events ≡ length events
  one_each [] = refl
  one_each (event ∷ rest) =
      let here : event_words p plan event ≡ 1 = ap (λ (b : Bool). if b then length event.loads + 1 else 1) (not_checked event.site) in
      omega (arith, sum_by-cons (event_words p plan) event rest, here, one_each rest)

  part_within : (s : ℕ) (events : List Event) → word_count p plan events s ≤ sum_by (event_words p plan) events
  part_within s [] = omega arith
  part_within s (event ∷ rest) =
      let here : (if stage_of p plan event.site == s then event_words p plan event else 0) ≤ event_words p plan event =
      elim (cases_Bool (stage_of p plan event.site == s)) [ inl e ↦ rw e (omega arith) | inr e ↦ rw e (omega arith) ] in
      omega (
        arith,
        here,
        sum_by-cons (λ (x : Event). if stage_of p plan x.site == s then event_words p plan x else 0) event rest,
        sum_by-cons (event_words p
            plan) event rest,
        part_within s rest,
      )

  pub few_steps_fit : (events : List Event) → length events ≤ plan.words → fits_words p plan events ≡ true
  few_steps_fit events few = count_all (λ s. nat_le (word_count p plan events s) plan.words) (length plan.stages) 1
      (λ s low high. le-leb (word_count p plan events s) plan.words (omega (arith, part_within s events, one_each events, few)))

pub clean_anywhere : (p : Program) (plan : Plan) → hides_nothing p plan ≡ true → CleanAnywhere p plan
clean_anywhere p plan hides run e f i =
    let events = iteration run plan.region i in
    let here = agrees_freely p plan hides (memory_after run plan.region e) i (events_since run plan.region e i) events in
    let there = agrees_freely p plan hides (memory_after run plan.region f) i (events_since run plan.region f i) events in
    ap (λ (b : Bool). has_ended run plan.region i && b && list_all (event_as_assumed p plan) events && fits_words p plan events) (here ∙ sym there)

-- ---- another plan's clean iteration

-- with the same assumptions an event goes alike, where it doesn't leave
assumed_alike : (p : Program) (plan other : Plan) → other.assume ≡ plan.assume → (events : List Event) →
    Each (λ (event : Event). leaves event.effect ≡ false) events → list_all (event_as_assumed p other) events ≡ true →
    list_all (event_as_assumed p plan) events ≡ true
assumed_alike p plan other same [] stay all = refl
assumed_alike p plan other same (event ∷ rest) stay all =
    let parts = and_parts (event_as_assumed p other event) (list_all (event_as_assumed p other) rest) all in
    let went = and_parts (list_all (goes_as event.site event.effect) other.assume) (stays_late p other event.site event.effect) parts.0 in
    let here : list_all (goes_as event.site event.effect) plan.assume ≡ true = subst (λ (l : List Assume). list_all (goes_as event.site event.effect) l
    ≡ true) same went.0 in
    let late : stays_late p plan event.site event.effect ≡ true = ap (λ (b : Bool). not b || nat_le (stage_of p plan event.site) 1) stay.0 in
    and_from (event_as_assumed p plan event) (list_all (event_as_assumed p plan) rest)
    (and_from (list_all (goes_as event.site event.effect) plan.assume) (stays_late p plan event.site event.effect) here late)
    (assumed_alike p plan other same rest stay.1 parts.1)

module _ (p : Program) (plan other : Plan) (runs : RunsFor p plan other) where
  alike_in : (run : Run) (e i : ℕ) → has_ended run plan.region i ≡ true → list_all (event_as_assumed p other) (iteration run plan.region i) ≡ true →
      is_closing run plan.region i ≡ false → length (iteration run plan.region i) ≤ plan.words →
      is_clean p plan run e i ≡ true
  alike_in run e i ended assumed open_ few =
      let events = iteration run plan.region i in
      let stay = none_of is_leaving events (or_parts (decided_zero (slice_get events 0)) (list_any is_leaving events) open_).1 in
      let agree = agrees_freely p plan runs.hides (memory_after run plan.region e) i (events_since run plan.region e i) events in
      rw (ended, agree, assumed_alike p plan other runs.assume events stay assumed, few_steps_fit p plan runs.hides events few) refl

  parts_of : (h a t f : Bool) → (h && a && t && f) ≡ true → (h ≡ true) × (t ≡ true)
  parts_of true true true true e = (refl, refl)
  parts_of true true true false e = absurd (cc)
  parts_of true true false f e = absurd (cc)
  parts_of true false t f e = absurd (cc)
  parts_of false a t f e = absurd (cc)

  of_other : (run : Run) (f i : ℕ) → is_clean p other run f i ≡ true → (has_ended run other.region i ≡ true)
      × (list_all (event_as_assumed p other) (iteration run other.region i) ≡ true)
  of_other run f i clean =
      let events = iteration run other.region i in
      parts_of (has_ended run other.region i) (all_agree p other (memory_after run other.region f) i (events_since run other.region f i) events)
      (list_all (event_as_assumed p other) events) (fits_words p other events) clean

  pub clean_alike : CleanAlike p plan other
  clean_alike run e f i clean open_ few =
      let parts = of_other run f i clean in
      alike_in run e i (subst (λ (r : ℕ). has_ended run r i ≡ true) runs.region parts.0)
      (subst (λ (r : ℕ). list_all (event_as_assumed p other) (iteration run r i) ≡ true) runs.region parts.1) open_ few
