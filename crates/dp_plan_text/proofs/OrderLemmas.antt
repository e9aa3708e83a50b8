-- Numbers in ascending order: which are among them, and the first that stands there again.
use Rattle.std.proofs.Common.{◌≡◌, inl, inr, refl, sym, ◌∙◌, ap, arith, ℕ, suc, ◌+◌, ◌<◌, ◌≤◌, ◌==◌, if◌then◌else◌, nat_lt, Bool, true, false, List, [], ◌∷◌}
use Rattle.std.proofs.Common.{filter, cond, length, drop, get_or, Option, Some, None}
use Rattle.std.specs.List.Sorted.{IsNonDecreasing}
use Rattle.std.proofs.lemmas.Bool.{cases_Bool, and_parts, eqb-true, eqb-false, eq-eqb, ne_eqb, le-ltb, lt-ltb}
use Rattle.std.proofs.lemmas.List.{get_or_default}
use Rattle.std.proofs.lemmas.List.Folds.{Any-from_list_any}
use Rattle.std.proofs.lemmas.List.Sums.{count_by-le-length}
use Rattle.dp_plan.specs.Written.{has}
use Rattle.dp_plan.specs.Rules.{least, occurs_again}
use Rattle.dp_plan_text.proofs.MemberLemmas.{least_first, clash, has_later, has_cases, has_passing}
use Rattle.dp_plan_text.proofs.StageLemmas.{first_pair, pair_here, no_pair}
use Rattle.dp_plan.proofs.SameNumbers.{has_head, count, count_next, count_none}

-- none of the others is below the first, and so on
abbrev Rises : List ℕ → Type 0
Rises [] = Unit {0}
Rises (x ∷ rest) = ((n : ℕ) → has n rest ≡ true → x ≤ n) × Rises rest

pub rises : (xs : List ℕ) → IsNonDecreasing xs → Rises xs
rises [] up = tt
rises (x ∷ rest) up = (
  λ n e. let a = Any-from_list_any (λ m. m == n) rest e in
      omega (arith, up 0 (suc a.0) a.1 (omega arith) (omega (arith, a.2)), a.3, eqb-true a.1 n a.4),
  rises rest (λ i j d le lt. up (suc i) (suc j) d (omega (arith, le)) (omega (arith, lt))),
)

-- the first number that equals the one before it
abbrev pub first_again : List ℕ → Option ℕ
first_again = first_pair (λ x y. x == y)

-- ---- how often a number stands there

count_same : (x : ℕ) (xs : List ℕ) → count x (x ∷ xs) ≡ 1 + count x xs
count_same x xs = count_next x x xs ∙ ap (λ b. cond b 1 0 + count x xs) (eq-eqb x x refl)

count_other : (n x : ℕ) (xs : List ℕ) → (x == n) ≡ false → count n (x ∷ xs) ≡ count n xs
count_other n x xs e = count_next n x xs ∙ ap (λ b. cond b 1 0 + count n xs) e ∙ omega arith

-- the test needs to agree on the members alone
filter_members : (test other : ℕ → Bool) (xs : List ℕ) → ((n : ℕ) → has n xs ≡ true → test n ≡ other n) → filter test xs ≡ filter other xs
filter_members test other [] agree = refl
filter_members test other (x ∷ xs) agree =
    ap (λ b. if b then x ∷ filter test xs else filter test xs) (agree x (has_head x xs))
    ∙ ap (λ l. if other x then x ∷ l else l) (filter_members test other xs (λ n e. agree n (has_later n x xs e)))

repeated_more : (x y : ℕ) (rest : List ℕ) → Rises (x ∷ y ∷ rest) → least (filter (occurs_again (y ∷ rest)) (y ∷ rest)) ≡ first_again (y ∷ rest)
    → least (filter (occurs_again (x ∷ y ∷ rest)) (x ∷ y ∷ rest)) ≡ first_again (x ∷ y ∷ rest)
repeated_more x y rest up ih =
    let later = filter (occurs_again (x ∷ y ∷ rest)) (y ∷ rest) in
    elim (cases_Bool (x == y)) [
      | inl e ↦
          let same : (y == x) ≡ true = eq-eqb y x (sym (eqb-true x y e)) in
          let twice : occurs_again (x ∷ y ∷ rest) x ≡ true =
          lt-ltb 1 (count x (x ∷ y ∷ rest)) (omega (arith, count_same x (y ∷ rest), count_next x y rest ∙ ap (λ b. cond b 1 0 + count x rest) same)) in
          ap (λ b. least (if b then x ∷ later else later)) twice
          ∙ least_first x later
          (λ n t. up.0 n (and_parts (occurs_again (x ∷ y ∷ rest) n) (has n (y ∷ rest)) (sym (has_passing (occurs_again (x ∷ y ∷ rest)) n (y ∷ rest)) ∙ t)).1)
          ∙ ap Some (eqb-true x y e) ∙ sym (ap (λ b. if b then Some y else first_again (y ∷ rest)) e)
      | inr e ↦
          let below : x ≤ y = up.0 y (has_head y rest) in let apart = eqb-false x y e in
          let gone : has x (y ∷ rest) ≡ false = elim (cases_Bool (has x (y ∷ rest))) [
            | inl t ↦ elim (has_cases x y rest t) [ inl same ↦ absurd (apart (sym same)) | inr deeper ↦ absurd (apart (omega (arith, below, up.1.0 x deeper))) ]
            | inr f ↦ f
          ] in
          let once : occurs_again (x ∷ y ∷ rest) x ≡ false = le-ltb 1 (count x (x ∷ y ∷ rest))
          (omega (arith, count_same x (y ∷ rest), count_none x (y ∷ rest) gone)) in
          let agree : (n : ℕ) → has n (y ∷ rest) ≡ true → occurs_again (x ∷ y ∷ rest) n ≡ occurs_again (y ∷ rest) n =
          λ n t. ap (nat_lt 1) (count_other n x (y ∷ rest) (ne_eqb x n (λ same. clash (ap (λ m. has m (y ∷ rest)) same ∙ t) gone))) in
          ap (λ b. least (if b then x ∷ later else later)) once
          ∙ ap least (filter_members (occurs_again (x ∷ y ∷ rest)) (occurs_again (y ∷ rest)) (y ∷ rest) agree)
          ∙ ih ∙ sym (ap (λ b. if b then Some y else first_again (y ∷ rest)) e)
    ]

-- in ascending order the first one again is the least one that is repeated
pub repeated : (xs : List ℕ) → Rises xs → least (filter (occurs_again xs) xs) ≡ first_again xs
repeated [] up = refl
repeated (x ∷ []) up =
    let once : occurs_again (x ∷ []) x ≡ false = le-ltb 1 (count x (x ∷ [])) (omega (arith, count_same x [], count_by-le-length (λ m. m == x) (x ∷ []))) in
    ap (λ b. least (if b then x ∷ [] else [])) once
repeated (x ∷ y ∷ rest) up = repeated_more x y rest up (repeated (y ∷ rest) up.1)

module _ (xs : List ℕ) (up : IsNonDecreasing xs) (k i : ℕ) (next : k + 1 ≡ i) (so_far : first_again (drop k xs) ≡ first_again xs) where
  pub again_found : i < length xs → get_or xs k 0 ≡ get_or xs i 0 → Some (get_or xs i 0) ≡ least (filter (occurs_again xs) xs)
  again_found lt same =
      pair_here (λ x y. x == y) xs k so_far (get_or xs k 0) (get_or xs i 0) (omega (arith, next, lt)) (get_or_default xs k 0 _ (omega (arith, next, lt)))
      (get_or_default xs i 0 (get_or xs i 0) lt ∙ ap (λ n. get_or xs n (get_or xs i 0)) (sym next)) (eq-eqb (get_or xs k 0) (get_or xs i 0) same)
      ∙ sym (repeated xs (rises xs up))

  pub again_none : length xs ≤ i → None ≡ least (filter (occurs_again xs) xs)
  again_none le = no_pair (λ x y. x == y) xs k so_far (omega (arith, next, le)) ∙ sym (repeated xs (rises xs up))
