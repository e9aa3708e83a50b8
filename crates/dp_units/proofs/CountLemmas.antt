-- Counts of nodes without a place, and of edges from them.
use Rattle.std.proofs.Common.{◌≡◌, ◌≢◌, ◌⊎◌, inl, inr, refl, sym, subst, ◌∙◌, ap, arith, ℕ, zero, suc, ◌<◌, ◌≤◌, ◌+◌, ◌==◌, ◌&&◌, if◌then◌else◌, Bool, true}
use Rattle.std.proofs.Common.{false, List, [], ◌∷◌, length, replicate, slice_index}
use Rattle.std.proofs.lemmas.Bool.{cases_eq, eq-eqb, ne_eqb, and_from}
use Rattle.dp_room.specs.OneIf.{one_if}
use Rattle.dp_units.specs.steps.Entries.{times}
use Rattle.dp_units.specs.Graph.{HasEdge}
use Rattle.dp_units.specs.steps.Rows.{targets, waits_for}
use Rattle.dp_units.specs.steps.Taking.{left_over}

pub at_most_one : (b : Bool) → one_if b ≤ 1
at_most_one true = omega arith
at_most_one false = omega arith

none_more : (n x y : ℕ) → (y ≡ n → x ≡ n) → one_if (y == n) ≤ one_if (x == n)
none_more n x y back = elim (cases_eq y n) [
  | inl same ↦ let is : one_if (x == n) ≡ 1 = ap one_if (eq-eqb x n (back same)) in let low = at_most_one (y == n) in omega (arith, is, low)
  | inr other ↦ let is : one_if (y == n) ≡ 0 = ap one_if (ne_eqb y n other) in omega (arith, is)
]

pub left_over_le : (n : ℕ) (xs ys : List ℕ) → length ys ≡ length xs → ((k : ℕ) → k < length xs → slice_index ys k ≡ n → slice_index xs k ≡ n) →
    left_over n ys ≤ left_over n xs
left_over_le n [] [] same back = omega arith
left_over_le n [] (y ∷ ys) same back = absurd (omega (arith, same))
left_over_le n (x ∷ xs) [] same back = absurd (omega (arith, same))
left_over_le n (x ∷ xs) (y ∷ ys) same back =
    let rest = left_over_le n xs ys (omega (arith, same)) (λ k h. back (suc k) (omega (arith, h))) in
    let first = none_more n x y (back 0 (omega arith)) in
    omega (arith, rest, first)

pub left_over_lt : (n : ℕ) (xs ys : List ℕ) (j : ℕ) → length ys ≡ length xs → ((k : ℕ) → k < length xs → slice_index ys k ≡ n → slice_index xs k ≡ n) →
    j < length xs → slice_index xs j ≡ n → slice_index ys j ≢ n → left_over n ys < left_over n xs
left_over_lt n [] ys j same back within was now = absurd (omega (arith, within))
left_over_lt n (x ∷ xs) [] j same back within was now = absurd (omega (arith, same))
left_over_lt n (x ∷ xs) (y ∷ ys) zero same back within was now =
    let rest = left_over_le n xs ys (omega (arith, same)) (λ k h. back (suc k) (omega (arith, h))) in
    let one : one_if (x == n) ≡ 1 = ap one_if (eq-eqb x n was) in
    let none : one_if (y == n) ≡ 0 = ap one_if (ne_eqb y n now) in
    omega (arith, rest, one, none)
left_over_lt n (x ∷ xs) (y ∷ ys) (suc j) same back within was now =
    let rest = left_over_lt n xs ys j (omega (arith, same)) (λ k h. back (suc k) (omega (arith, h))) (omega (arith, within)) was now in
    let first = none_more n x y (back 0 (omega arith)) in
    omega (arith, rest, first)

pub some_left : (n : ℕ) (xs : List ℕ) (j : ℕ) → j < length xs → slice_index xs j ≡ n → 0 < left_over n xs
some_left n [] j within is = absurd (omega (arith, within))
some_left n (x ∷ xs) zero within is = let one : one_if (x == n) ≡ 1 = ap one_if (eq-eqb x n is) in omega (arith, one)
some_left n (x ∷ xs) (suc j) within is = let rest = some_left n xs j (omega (arith, within)) is in omega (arith, rest)

pub all_left : (n m : ℕ) → left_over n (replicate m n) ≤ m
all_left n zero = omega arith
all_left n (suc m) = let rest = all_left n m in let one = at_most_one (n == n) in omega (arith, rest, one)

pub first_edge : (edges : List (ℕ × ℕ)) (a b : ℕ) → HasEdge ((a, b) ∷ edges) a b
first_edge edges a b = (0, omega arith, refl)

pub later_edge : (e : ℕ × ℕ) (edges : List (ℕ × ℕ)) (a b : ℕ) → HasEdge edges a b → HasEdge (e ∷ edges) a b
later_edge e edges a b (i, h, is) = (suc i, omega (arith, h), is)

-- no edge from a node without a place: each that leads here comes from one that has a place
pub none_waits : (n : ℕ) (places : List ℕ) (edges : List (ℕ × ℕ)) (a x : ℕ) → waits_for n places edges x ≡ 0 → HasEdge edges a x → slice_index places a ≢ n
none_waits n places [] a x none (i, h, is) left = omega (arith, h)
none_waits n places (e ∷ edges) a x none (zero, h, is) left =
    let to : (e.1 == x) ≡ true = eq-eqb e.1 x (ap (λ (p : ℕ × ℕ). p.1) is) in
    let from : (slice_index places e.0 == n) ≡ true = eq-eqb (slice_index places e.0) n (ap (λ (p : ℕ × ℕ). slice_index places p.0) is ∙ left) in
    let one : one_if ((e.1 == x) && (slice_index places e.0 == n)) ≡ 1 = ap one_if (and_from (e.1 == x) (slice_index places e.0 == n) to from) in
    omega (arith, one, none)
none_waits n places (e ∷ edges) a x none (suc i, h, is) left = none_waits n places edges a x (omega (arith, none)) (i, omega (arith, h), is) left

one_by : (x y : Bool) → (one_if (x && y) ≡ 0) ⊎ ((x ≡ true) × (y ≡ true))
one_by true true = inr (refl, refl)
one_by true false = inl refl
one_by false y = inl refl

eqb_eq : (a b : ℕ) → (a == b) ≡ true → a ≡ b
eqb_eq a b t = elim (cases_eq a b) [
  | inl same ↦ same
  | inr other ↦ let f = ne_eqb a b other in absurd (cc (sym t ∙ f))
]

-- some edge leads here from a node without a place
pub some_waits : (n : ℕ) (places : List ℕ) (edges : List (ℕ × ℕ)) (x : ℕ) → waits_for n places edges x ≢ 0 → (a : ℕ) × HasEdge edges a x
    × (slice_index places a ≡ n)
some_waits n places [] x some = absurd (some refl)
some_waits n places (e ∷ edges) x some = elim (one_by (e.1 == x) (slice_index places e.0 == n)) [
  | inr both ↦ (e.0, subst (λ y. HasEdge (e ∷ edges) e.0 y) (eqb_eq e.1 x both.0) (first_edge edges e.0 e.1), eqb_eq (slice_index places e.0) n both.1)
  | inl none ↦
      let rest = some_waits n places edges x (λ zero. some (omega (arith, none, zero))) in
      (rest.0, later_edge e edges rest.0 x rest.1, rest.2)
]

pub left_of : (b c : Bool) → c ≡ true → one_if (b && c) ≡ one_if b
left_of true c e = ap one_if e
left_of false c e = refl

gone : (b c : Bool) → c ≡ false → one_if (b && c) ≡ 0
gone true c e = ap one_if e
gone false c e = refl

-- a node gets a place, and what its edges lead to waits for so many less
pub fewer_wait : (n : ℕ) (places now : List ℕ) (l : ℕ) → slice_index places l ≡ n → slice_index now l ≢ n →
    ((a : ℕ) → a ≢ l → slice_index now a ≡ slice_index places a) →
    (edges : List (ℕ × ℕ)) (x : ℕ) → waits_for n places edges x ≡ waits_for n now edges x + times (targets edges l) x
fewer_wait n places now l was is others [] x = refl
fewer_wait n places now l was is others (e ∷ edges) x =
    let rest = fewer_wait n places now l was is others edges x in
    elim (cases_eq e.0 l) [
      | inl same ↦
          let row : targets (e ∷ edges) l ≡ e.1 ∷ targets edges l = ap (λ t. if t then e.1 ∷ targets edges l else targets edges l) (eq-eqb e.0 l same) in
          let count : times (targets (e ∷ edges) l) x ≡ one_if (e.1 == x) + times (targets edges l) x = ap (λ (ys : List ℕ). times ys x) row in
          let before : one_if ((e.1 == x) && (slice_index places e.0 == n)) ≡ one_if (e.1 == x) =
          left_of (e.1 == x) (slice_index places e.0 == n) (eq-eqb (slice_index places e.0) n (ap (λ k. slice_index places k) same ∙ was)) in
          let after : one_if ((e.1 == x) && (slice_index now e.0 == n)) ≡ 0 =
          gone (e.1 == x) (slice_index now e.0 == n) (ne_eqb (slice_index now e.0) n (λ h. is (ap (λ k. slice_index now k) (sym same) ∙ h))) in
          omega (arith, rest, count, before, after)
      | inr other ↦
          let row : targets (e ∷ edges) l ≡ targets edges l = ap (λ t. if t then e.1 ∷ targets edges l else targets edges l) (ne_eqb e.0 l other) in
          let count : times (targets (e ∷ edges) l) x ≡ times (targets edges l) x = ap (λ (ys : List ℕ). times ys x) row in
          let kept : one_if ((e.1 == x) && (slice_index now e.0 == n)) ≡ one_if ((e.1 == x) && (slice_index places e.0 == n)) =
          ap (λ k. one_if ((e.1 == x) && (k == n))) (others e.0 other) in
          omega (arith, rest, count, kept)
    ]

-- what stands in a row is the end of an edge
pub edge_of : (edges : List (ℕ × ℕ)) (l x : ℕ) → times (targets edges l) x ≢ 0 → HasEdge edges l x
edge_of [] l x some = absurd (some refl)
edge_of (e ∷ edges) l x some = elim (cases_eq e.0 l) [
  | inl same ↦
      let row : targets (e ∷ edges) l ≡ e.1 ∷ targets edges l = ap (λ t. if t then e.1 ∷ targets edges l else targets edges l) (eq-eqb e.0 l same) in
      let count : times (targets (e ∷ edges) l) x ≡ one_if (e.1 == x) + times (targets edges l) x = ap (λ (ys : List ℕ). times ys x) row in
      elim (cases_eq e.1 x) [
        | inl to ↦ subst (λ y. HasEdge (e ∷ edges) l y) to (subst (λ k. HasEdge (e ∷ edges) k e.1) same (first_edge edges e.0 e.1))
        | inr apart ↦
            let none : one_if (e.1 == x) ≡ 0 = ap one_if (ne_eqb e.1 x apart) in
            later_edge e edges l x (edge_of edges l x (λ zero. some (omega (arith, zero, none, count))))
      ]
  | inr other ↦
      let row : targets (e ∷ edges) l ≡ targets edges l = ap (λ t. if t then e.1 ∷ targets edges l else targets edges l) (ne_eqb e.0 l other) in
      let count : times (targets (e ∷ edges) l) x ≡ times (targets edges l) x = ap (λ (ys : List ℕ). times ys x) row in
      later_edge e edges l x (edge_of edges l x (λ zero. some (omega (arith, zero, count))))
]
