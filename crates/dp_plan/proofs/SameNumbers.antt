-- Lists that ascend strictly are the same where they have the same numbers, and each number stands there once.
use Rattle.std.proofs.Common.{◌≡◌, refl, sym, ap, subst, ◌∙◌, ℕ, ◌+◌, ◌<◌, ◌≤◌, ◌==◌, Bool, true, false, cond, List, [], ◌∷◌, ◌++◌, count_by, inl, inr, arith}
use Rattle.std.proofs.Common.{eq-eqb, eqb-true}
use Rattle.std.proofs.lemmas.Bool.{cases_Bool, or_right}
use Rattle.std.proofs.lemmas.List.Sums.{sum_by-cons, sum_by-append}
use Rattle.dp_plan.specs.Each.{AscendAbove}
use Rattle.dp_plan.specs.Written.{has}
use Rattle.dp_plan.proofs.Ascent.{above_each}
use Rattle.dp_plan.proofs.Found.{has_each, past, past_other}

pub has_head : (x : ℕ) (xs : List ℕ) → has x (x ∷ xs) ≡ true
has_head x xs = rw (eq-eqb x x refl) refl

heads : (x y : ℕ) (xs ys : List ℕ) → AscendAbove x xs → AscendAbove y ys → has x (y ∷ ys) ≡ true → has y (x ∷ xs) ≡ true → x ≡ y
heads x y xs ys up up_too e f = elim (cases_Bool (y == x)) [
  | inl t ↦ sym (eqb-true y x t)
  | inr t ↦ elim (cases_Bool (x == y)) [
    | inl u ↦ eqb-true x y u
    | inr u ↦
        let high : y < x = has_each (λ n. y < n) ys x (above_each y ys up_too) (past_other y x ys t e) in
        let low : x < y = has_each (λ n. x < n) xs y (above_each x xs up) (past_other x y xs u f) in
        absurd (omega (arith, high, low))
  ]
]

tails : (x : ℕ) (xs ys : List ℕ) → AscendAbove x xs → ((n : ℕ) → has n (x ∷ xs) ≡ true → has n (x ∷ ys) ≡ true) → (n : ℕ) → has n xs ≡ true → has n ys ≡ true
tails x xs ys up f n e =
    let lt : x < n = has_each (λ m. x < m) xs n (above_each x xs up) e in
    past x n ys lt (f n (or_right (x == n) (has n xs) e))

pub same_numbers : (low : ℕ) (xs ys : List ℕ) → AscendAbove low xs → AscendAbove low ys → ((n : ℕ) → has n xs ≡ true → has n ys ≡ true) →
    ((n : ℕ) → has n ys ≡ true → has n xs ≡ true) → xs ≡ ys
same_numbers low [] [] up up_too f g = refl
same_numbers low [] (y ∷ ys) up up_too f g = let clash : false ≡ true = g y (has_head y ys) in absurd (cc clash)
same_numbers low (x ∷ xs) [] up up_too f g = let clash : false ≡ true = f x (has_head x xs) in absurd (cc clash)
same_numbers low (x ∷ xs) (y ∷ ys) up up_too f g =
    let e : x ≡ y = heads x y xs ys up.2 up_too.2 (f x (has_head x xs)) (g y (has_head y ys)) in
    let later : AscendAbove x ys = subst (λ (i : ℕ). AscendAbove i ys) (sym e) up_too.2 in
    ap (λ (l : List ℕ). x ∷ l) (same_numbers x xs ys up.2 later
    (tails x xs ys up.2 (λ n h. subst (λ (i : ℕ). has n (i ∷ ys) ≡ true) (sym e) (f n h)))
    (tails x ys xs later (λ n h. g n (subst (λ (i : ℕ). has n (i ∷ ys) ≡ true) e h))))
    ∙ ap (λ (i : ℕ). i ∷ ys) e

-- ---- how often a number stands there

abbrev pub count : ℕ → List ℕ → ℕ
count n ns = count_by (λ m. m == n) ns

pub count-append : (n : ℕ) (xs ys : List ℕ) → count n (xs ++ ys) ≡ count n xs + count n ys
count-append n xs ys = sum_by-append (λ m. cond (m == n) 1 0) xs ys

pub count_next : (n m : ℕ) (ms : List ℕ) → count n (m ∷ ms) ≡ cond (m == n) 1 0 + count n ms
count_next n m ms = sum_by-cons (λ i. cond (i == n) 1 0) m ms

pub count_some : (n : ℕ) (ns : List ℕ) → has n ns ≡ true → 1 ≤ count n ns
count_some n [] e = absurd (cc e)
count_some n (m ∷ ms) e = elim (cases_Bool (m == n)) [
  | inl t ↦ let one : count n (m ∷ ms) ≡ 1 + count n ms = count_next n m ms ∙ ap (λ (b : Bool). cond b 1 0 + count n ms) t in omega (arith, one)
  | inr t ↦ let none : count n (m ∷ ms) ≡ 0 + count n ms = count_next n m ms ∙ ap (λ (b : Bool). cond b 1 0 + count n ms) t in
      omega (arith, none, count_some n ms (past_other m n ms t e))
]

pub count_none : (n : ℕ) (ns : List ℕ) → has n ns ≡ false → count n ns ≡ 0
count_none n [] e = refl
count_none n (m ∷ ms) e = elim (cases_Bool (m == n)) [
  | inl t ↦ let clash : true ≡ false = rw t at e in absurd (cc clash)
  | inr t ↦ let none : count n (m ∷ ms) ≡ 0 + count n ms = count_next n m ms ∙ ap (λ (b : Bool). cond b 1 0 + count n ms) t in
      let rest : has n ms ≡ false = rw t at e in omega (arith, none, count_none n ms rest)
]

-- what ascends has each number once
pub ascending_once : (low n : ℕ) (ns : List ℕ) → AscendAbove low ns → count n ns ≤ 1
ascending_once low n [] up = omega arith
ascending_once low n (m ∷ ms) up = elim (cases_Bool (m == n)) [
  | inl t ↦ let one : count n (m ∷ ms) ≡ 1 + count n ms = count_next n m ms ∙ ap (λ (b : Bool). cond b 1 0 + count n ms) t in
      omega (arith, one, count_none n ms (lower t))
  | inr t ↦ let none : count n (m ∷ ms) ≡ 0 + count n ms = count_next n m ms ∙ ap (λ (b : Bool). cond b 1 0 + count n ms) t in
      omega (arith, none, ascending_once m n ms up.2)
]
  where
    lower : (m == n) ≡ true → has n ms ≡ false
    lower t = elim (cases_Bool (has n ms)) [
      | inl e ↦ let lt : m < n = has_each (λ i. m < i) ms n (above_each m ms up.2) e in absurd (omega (arith, lt, eqb-true m n t))
      | inr e ↦ e
    ]
