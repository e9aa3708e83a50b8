-- What is free after a node came to it, and after a row was gone through.
use Rattle.std.proofs.Common.{◌≡◌, ◌≢◌, ◌⊎◌, inl, inr, refl, sym, subst, ◌∙◌, ap, arith, ℕ, zero, suc, ◌<◌, ◌≤◌, ◌+◌, ◌-◌, ◌==◌, List, [], ◌∷◌, ◌++◌, length}
use Rattle.std.proofs.Common.{take, Some, slice_index, slice_index_or}
use Rattle.std.proofs.Math.ListN.{set}
use Rattle.std.specs.declared.cmp.Ordering.{Ordering}
use Rattle.std.specs.declared.cmp.Ordering.TheVariants.{Less, Equal, Greater}
use Rattle.std.specs.Ordering.{nat_cmp, match_ordering}
use Rattle.std.specs.BTreeSet.{insert_key}
use Rattle.std.proofs.lemmas.Map.Lookups.{exact_unsigned}
use Rattle.std.proofs.lemmas.Bool.{cases_eq, eq-eqb, ne_eqb}
use Rattle.std.proofs.lemmas.List.{take_more, get_or-set_same, get_or-set_other}
use Rattle.std.proofs.lemmas.Option.{same_Some}
use Rattle.dp_room.specs.OneIf.{one_if}
use Rattle.dp_units.specs.steps.Entries.{Has, times}
use Rattle.dp_units.proofs.AtLemmas.{at_none}

pub has_first : (k x : ℕ) (ks : List ℕ) → Has (k ∷ ks) x → (x ≡ k) ⊎ Has ks x
has_first k x ks (zero, e) = inl (sym (same_Some k x e))
has_first k x ks (suc i, e) = inr (i, e)

has_later : (k x : ℕ) (ks : List ℕ) → Has ks x → Has (k ∷ ks) x
has_later k x ks (i, e) = (suc i, e)

pub insert_from : (ks : List ℕ) (k x : ℕ) → Has (insert_key nat_cmp ks k) x → Has ks x ⊎ (x ≡ k)
insert_from [] k x has = elim (has_first k x [] has) [ inl same ↦ inr same | inr none ↦ inl none ]
insert_from (y ∷ ys) k x has = by (nat_cmp k y) has (insert_from ys k x)
  where
    by : (o : Ordering) → Has (match_ordering o (k ∷ y ∷ ys) (y ∷ ys) (y ∷ insert_key nat_cmp ys k)) x →
        (Has (insert_key nat_cmp ys k) x → Has ys x ⊎ (x ≡ k)) → Has (y ∷ ys) x ⊎ (x ≡ k)
    by Less has rest = elim (has_first k x (y ∷ ys) has) [ inl same ↦ inr same | inr old ↦ inl old ]
    by Equal has rest = inl has
    by Greater has rest = elim (has_first y x (insert_key nat_cmp ys k) has) [
      | inl same ↦ inl (0, ap Some (sym same))
      | inr later ↦ elim (rest later) [ inl old ↦ inl (has_later y x ys old) | inr same ↦ inr same ]
    ]

pub insert_kept : (ks : List ℕ) (k x : ℕ) → Has ks x → Has (insert_key nat_cmp ks k) x
insert_kept [] k x has = absurd (at_none has.0 x has.1)
insert_kept (y ∷ ys) k x has = by (nat_cmp k y) has (insert_kept ys k x)
  where
    by : (o : Ordering) → Has (y ∷ ys) x → (Has ys x → Has (insert_key nat_cmp ys k) x) →
        Has (match_ordering o (k ∷ y ∷ ys) (y ∷ ys) (y ∷ insert_key nat_cmp ys k)) x
    by Less has rest = has_later k x (y ∷ ys) has
    by Equal has rest = has
    by Greater has rest = elim (has_first y x ys has) [ inl same ↦ (0, ap Some (sym same)) | inr later ↦ has_later y x (insert_key nat_cmp ys k) (rest later) ]

pub insert_added : (ks : List ℕ) (k : ℕ) → Has (insert_key nat_cmp ks k) k
insert_added [] k = (0, refl)
insert_added (y ∷ ys) k = by (nat_cmp k y) (exact_unsigned k y) (insert_added ys k)
  where
    by : (o : Ordering) → (o ≡ Equal → k ≡ y) → Has (insert_key nat_cmp ys k) k → Has (match_ordering o (k ∷ y ∷ ys) (y ∷ ys) (y ∷ insert_key nat_cmp ys k)) k
    by Less exact rest = (0, refl)
    by Equal exact rest = (0, ap Some (sym (exact refl)))
    by Greater exact rest = has_later y k (insert_key nat_cmp ys k) rest

times_push : (xs : List ℕ) (y x : ℕ) → times (xs ++ y ∷ []) x ≡ times xs x + one_if (y == x)
times_push [] y x = omega arith
times_push (z ∷ xs) y x = let rest = times_push xs y x in omega (arith, rest)

times_front : (k : ℕ) (xs : List ℕ) (x : ℕ) → times (take k xs) x ≤ times xs x
times_front zero xs x = omega arith
times_front (suc k) [] x = omega arith
times_front (suc k) (y ∷ xs) x = let rest = times_front k xs x in omega (arith, rest)

-- one entry of a row more: its node waits for one edge less
module _ (initial waits row : List ℕ) (i node : ℕ) (h : i < length row) (is : slice_index_or row i 0 ≡ node) (low : node < length initial)
    (same : length waits ≡ length initial)
    (enough : (y : ℕ) → y < length initial → times row y ≤ slice_index initial y)
    (less : (y : ℕ) → y < length initial → slice_index waits y + times (take i row) y ≡ slice_index initial y) where
  abbrev now : List ℕ
  now = set waits node (slice_index waits node - 1)

  more : (y : ℕ) → times (take (i + 1) row) y ≡ times (take i row) y + one_if (node == y)
  more y = ap (λ (xs : List ℕ). times xs y) (take_more row i 0 h ∙ ap (λ k. take i row ++ k ∷ []) is) ∙ times_push (take i row) node y

  here : times (take (i + 1) row) node ≡ times (take i row) node + 1
  here = more node ∙ ap (λ b. times (take i row) node + one_if b) (eq-eqb node node refl)

  apart : (y : ℕ) → y ≢ node → times (take (i + 1) row) y ≡ times (take i row) y
  apart y ne = let none : one_if (node == y) ≡ 0 = ap one_if (ne_eqb node y (λ e. ne (sym e))) in let m = more y in omega (arith, m, none)

  pub one_left : 1 ≤ slice_index waits node
  one_left =
      let front = times_front (i + 1) row node in
      let all = enough node low in
      let l = less node low in
      let m = here in
      omega (arith, front, all, l, m)

  written : slice_index now node ≡ slice_index waits node - 1
  written = get_or-set_same waits node (slice_index waits node - 1) 0 (omega (arith, low, same))

  kept_at : (y : ℕ) → y ≢ node → slice_index now y ≡ slice_index waits y
  kept_at y ne = get_or-set_other waits node y (slice_index waits node - 1) 0 ne

  pub less_more : (y : ℕ) → y < length initial → slice_index now y + times (take (i + 1) row) y ≡ slice_index initial y
  less_more y in_y = elim (cases_eq y node) [
    | inl e ↦
        let l = less node low in
        let m = here in
        let w = written in
        let one = one_left in
        let at : slice_index now node + times (take (i + 1) row) node ≡ slice_index initial node = omega (arith, l, m, w, one) in
        subst (λ k. slice_index now k + times (take (i + 1) row) k ≡ slice_index initial k) (sym e) at
    | inr ne ↦ let l = less y in_y in let m = apart y ne in let w = kept_at y ne in omega (arith, l, m, w)
  ]

  module _ (first old new : List ℕ)
      (from : (y : ℕ) → Has old y → Has first y ⊎ ((times (take i row) y ≢ 0) × (slice_index waits y ≡ 0)))
      (added : (y : ℕ) → times (take i row) y ≢ 0 → slice_index waits y ≡ 0 → Has old y)
      (offered : (y : ℕ) → Has new y → Has old y ⊎ ((y ≡ node) × (slice_index now node ≡ 0)))
      (kept : (y : ℕ) → Has old y → Has new y) (free : slice_index now node ≡ 0 → Has new node) where
    pub from_more : (y : ℕ) → Has new y → Has first y ⊎ ((times (take (i + 1) row) y ≢ 0) × (slice_index now y ≡ 0))
    from_more y has = elim (offered y has) [
      | inl was ↦ elim (from y was) [
        | inl at_first ↦ inl at_first
        | inr (some, none) ↦ elim (cases_eq y node) [
          | inl e ↦ let one = one_left in let zero : slice_index waits node ≡ 0 = subst (λ k. slice_index waits k ≡ 0) e none in
              absurd (omega (arith, one, zero))
          | inr ne ↦ inr ((λ e. some (sym (apart y ne) ∙ e)), kept_at y ne ∙ none)
        ]
      ]
      | inr (e, none) ↦ inr (
        (λ zero. let m = here in let at : times (take (i + 1) row) node ≡ 0 = subst (λ k. times (take (i + 1) row) k ≡ 0) e zero in omega (arith, m, at)),
        subst (λ k. slice_index now k ≡ 0) (sym e) none,
      )
    ]

    pub added_more : (y : ℕ) → times (take (i + 1) row) y ≢ 0 → slice_index now y ≡ 0 → Has new y
    added_more y some none = elim (cases_eq y node) [
      | inl e ↦ subst (λ k. Has new k) (sym e) (free (subst (λ k. slice_index now k ≡ 0) e none))
      | inr ne ↦ kept y (added y (λ e. some (apart y ne ∙ e)) (sym (kept_at y ne) ∙ none))
    ]

-- the leaders below a node that wait for none
pub record AreFree (leader_of waits free : List ℕ) (node : ℕ) : Type 0 where
  pub leader : (x : ℕ) → Has free x → (x < node) × (slice_index leader_of x ≡ x) × (slice_index waits x ≡ 0)
  pub all : (x : ℕ) → x < node → slice_index leader_of x ≡ x → slice_index waits x ≡ 0 → Has free x

pub free_offered : (leader_of waits old new : List ℕ) (node : ℕ) → AreFree leader_of waits old node → slice_index leader_of node ≡ node →
    ((x : ℕ) → Has new x → Has old x ⊎ ((x ≡ node) × (slice_index waits node ≡ 0))) → ((x : ℕ) → Has old x → Has new x) →
    (slice_index waits node ≡ 0 → Has new node) → AreFree leader_of waits new (node + 1)
free_offered leader_of waits old new node was leads from kept added = record {
  leader = λ x has. elim (from x has) [
    | inl before ↦ let (low, leader, none) = was.leader x before in (omega (arith, low), leader, none)
    | inr (same, none) ↦ (omega (arith, same), subst (λ k. slice_index leader_of k ≡ k) (sym same) leads, subst (λ k. slice_index waits k ≡ 0) (sym same) none)
  ];
  all = λ x low leader none. elim (cases_eq x node) [
    | inl same ↦ subst (λ k. Has new k) (sym same) (added (subst (λ k. slice_index waits k ≡ 0) same none))
    | inr ne ↦ kept x (was.all x (omega (arith, low, ne)) leader none)
  ];
}

pub free_passed : (leader_of waits free : List ℕ) (node : ℕ) → AreFree leader_of waits free node → slice_index leader_of node ≢ node →
    AreFree leader_of waits free (node + 1)
free_passed leader_of waits free node was other = record {
  leader = λ x has. let (low, leader, none) = was.leader x has in (omega (arith, low), leader, none);
  all = λ x low leader none. elim (cases_eq x node) [
    | inl same ↦ absurd (other (subst (λ k. slice_index leader_of k ≡ k) same leader))
    | inr ne ↦ was.all x (omega (arith, low, ne)) leader none
  ];
}
