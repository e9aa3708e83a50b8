-- Numbers that are found in a list.
use Rattle.std.proofs.Common.{◌≡◌, refl, sym, ap, subst, ℕ, ◌==◌, Bool, true, false, ◌||◌, List, [], ◌∷◌, map, filter, length, inl, inr, ◌<◌, ◌≤◌, arith}
use Rattle.std.proofs.Common.{eq-eqb, eqb-true, ne_eqb}
use Rattle.std.proofs.lemmas.Bool.{cases_Bool, or_right}
use Rattle.dp_plan.specs.Each.{Each}
use Rattle.dp_plan.specs.Written.{has}

pub has_each : (P : ℕ → Type 0) (ns : List ℕ) (n : ℕ) → Each P ns → has n ns ≡ true → P n
has_each P [] n each e = absurd (cc)
has_each P (m ∷ ms) n each e = elim (cases_Bool (m == n)) [
  | inl same ↦ subst P (eqb-true m n same) each.0
  | inr other ↦ has_each P ms n each.1 (rw other at e)
]

pub each_has : (ns : List ℕ) → Each (λ n. has n ns ≡ true) ns
each_has [] = tt
each_has (m ∷ ms) = (rw (eq-eqb m m refl) refl, more ms (each_has ms))
  where
    more : (rest : List ℕ) → Each (λ n. has n ms ≡ true) rest → Each (λ n. has n (m ∷ ms) ≡ true) rest
    more [] each = tt
    more (n ∷ rest) each = (elim (cases_Bool (m == n)) [ inl t ↦ rw t refl | inr t ↦ rw t each.0 ], more rest each.1)

-- a number that isn't the first one is a later one
pub past_other : (s n : ℕ) (rest : List ℕ) → (s == n) ≡ false → has n (s ∷ rest) ≡ true → has n rest ≡ true
past_other s n rest other e = rw other at e

pub past : (s n : ℕ) (rest : List ℕ) → s < n → has n (s ∷ rest) ≡ true → has n rest ≡ true
past s n rest lt e = past_other s n rest (ne_eqb s n (λ same. omega (arith, same, lt))) e

-- a number that is there and passes the test is kept
pub kept : (test : ℕ → Bool) (ns : List ℕ) (n : ℕ) → has n ns ≡ true → test n ≡ true → has n (filter test ns) ≡ true
kept test [] n e passes = absurd (cc e)
kept test (m ∷ ms) n e passes = elim (cases_Bool (m == n)) [
  | inl same ↦ let here : test m ≡ true = subst (λ (i : ℕ). test i ≡ true) (sym (eqb-true m n same)) passes in rw (here, same) refl
  | inr other ↦ elim (cases_Bool (test m)) [
    | inl t ↦ rw (t, other) (kept test ms n (past_other m n ms other e) passes)
    | inr t ↦ rw t (kept test ms n (past_other m n ms other e) passes)
  ]
]

-- what is kept is there and passes the test
pub has-filter : (test : ℕ → Bool) (ns : List ℕ) (n : ℕ) → has n (filter test ns) ≡ true → (has n ns ≡ true) × (test n ≡ true)
has-filter test [] n e = absurd (cc)
has-filter test (m ∷ ms) n e = elim (cases_Bool (test m)) [
  | inl t ↦ elim (cases_Bool (m == n)) [
    | inl same ↦ (rw same refl, subst (λ (i : ℕ). test i ≡ true) (eqb-true m n same) t)
    | inr other ↦ let there : (m == n) || has n (filter test ms) ≡ true = rw t at e in
        let r = has-filter test ms n (rw other at there) in (rw other r.0, r.1)
  ]
  | inr t ↦ let r = has-filter test ms n (rw t at e) in elim (cases_Bool (m == n)) [ inl same ↦ (rw same refl, r.1) | inr other ↦ (rw other r.0, r.1) ]
]

-- what has an image in the list keeps something
pub kept_some : (f : ℕ → ℕ) (k : ℕ) (ns : List ℕ) → has k (map f ns) ≡ true → 1 ≤ length (filter (λ n. f n == k) ns)
kept_some f k [] e = absurd (cc)
kept_some f k (n ∷ ns) e = elim (cases_Bool (f n == k)) [
  | inl t ↦ rw t (omega arith)
  | inr t ↦ rw t (kept_some f k ns (rw t at e))
]

pub has-map : (f : ℕ → ℕ) (ns : List ℕ) (n : ℕ) → has n ns ≡ true → has (f n) (map f ns) ≡ true
has-map f [] n e = absurd (cc e)
has-map f (m ∷ ms) n e = elim (cases_Bool (m == n)) [
  | inl same ↦ rw (eq-eqb (f m) (f n) (ap f (eqb-true m n same))) refl
  | inr other ↦ or_right (f m == f n) (has (f n) (map f ms)) (has-map f ms n (past_other m n ms other e))
]
