-- The least of numbers; lists with the same members have the same least number.
use Rattle.std.proofs.Common.{◌≡◌, ◌⊎◌, inl, inr, refl, sym, subst, ◌∙◌, ap, arith, ℕ, ◌≤◌, ◌==◌, if◌then◌else◌, nat_lt, Bool, true, false, ◌&&◌, ◌||◌, List}
use Rattle.std.proofs.Common.{[], ◌∷◌, filter, cond, Option, Some, None, ◌<◌}
use Rattle.std.specs.List.Sorted.{IsPermutation}
use Rattle.std.proofs.lemmas.Bool.{cases_Bool, true≢false, eqb-true, or_cases, ltb-true, ltb-false}
use Rattle.std.proofs.lemmas.List.Elements.{filter_agree}
use Rattle.std.proofs.lemmas.List.Sorted.{list_any-IsPermutation, sum_by-IsPermutation}
use Rattle.dp_plan.specs.Written.{has}
use Rattle.dp_plan.specs.Rules.{lesser, least, occurs_again}
use Rattle.dp_plan_text.specs.steps.Tables.{lesser_of}
use Rattle.std.proofs.Math.Bool.{or-true}
use Rattle.dp_plan.proofs.SameNumbers.{has_head}

-- the number is the least of these
abbrev IsLeast : List ℕ → Option ℕ → Type 0
IsLeast xs None = (n : ℕ) → has n xs ≡ false
IsLeast xs (Some m) = (has m xs ≡ true) × ((n : ℕ) → has n xs ≡ true → m ≤ n)

pub clash : {P : Type 0} {b : Bool} → b ≡ true → b ≡ false → P
clash t f = absurd (true≢false (sym t ∙ f))

pub has_later : (n x : ℕ) (xs : List ℕ) → has n xs ≡ true → has n (x ∷ xs) ≡ true
has_later n x xs e = ap (λ b. (x == n) || b) e ∙ or-true (x == n)

-- what is among these is the first or among the others
pub has_cases : (n x : ℕ) (xs : List ℕ) → has n (x ∷ xs) ≡ true → (x ≡ n) ⊎ (has n xs ≡ true)
has_cases n x xs e = elim (or_cases (x == n) (has n xs) e) [ inl t ↦ inl (eqb-true x n t) | inr t ↦ inr t ]

least_more : (x : ℕ) (xs : List ℕ) (o : Option ℕ) → IsLeast xs o → IsLeast (x ∷ xs) (lesser x o)
least_more x xs None none = (has_head x xs, λ n e. elim (has_cases n x xs e) [ inl same ↦ omega (arith, same) | inr t ↦ clash t (none n) ])
least_more x xs (Some m) (is, low) = elim (cases_Bool (nat_lt m x)) [
  | inl e ↦ subst (λ b. IsLeast (x ∷ xs) (Some (if b then m else x))) (sym e) (
    has_later m x xs is,
    λ n t. elim (has_cases n x xs t) [ inl same ↦ omega (arith, same, ltb-true m x e) | inr t' ↦ low n t' ],
  )
  | inr e ↦ subst (λ b. IsLeast (x ∷ xs) (Some (if b then m else x))) (sym e) (
    has_head x xs,
    λ n t. elim (has_cases n x xs t) [ inl same ↦ omega (arith, same) | inr t' ↦ omega (arith, ltb-false m x e, low n t') ],
  )
]

is_least : (xs : List ℕ) → IsLeast xs (least xs)
is_least [] = λ n. refl
is_least (x ∷ xs) = least_more x xs (least xs) (is_least xs)

one_least : (xs ys : List ℕ) (same : (n : ℕ) → has n xs ≡ has n ys) (o q : Option ℕ) → IsLeast xs o → IsLeast ys q → o ≡ q
one_least xs ys same None None a b = refl
one_least xs ys same None (Some m) a b = clash (same m ∙ b.0) (a m)
one_least xs ys same (Some m) None a b = clash (sym (same m) ∙ a.0) (b m)
one_least xs ys same (Some m) (Some k) a b =
    let one = a.1 k (same k ∙ b.0) in let two = b.1 m (sym (same m) ∙ a.0) in
    ap Some (omega (arith, one, two))

pub least_same : (xs ys : List ℕ) → ((n : ℕ) → has n xs ≡ has n ys) → least xs ≡ least ys
least_same xs ys same = one_least xs ys same (least xs) (least ys) (is_least xs) (is_least ys)

-- the first of them is the least where none is below it
pub least_first : (x : ℕ) (xs : List ℕ) → ((n : ℕ) → has n xs ≡ true → x ≤ n) → least (x ∷ xs) ≡ Some x
least_first x xs low = one_least (x ∷ xs) (x ∷ xs) (λ n. refl) (least (x ∷ xs)) (Some x) (is_least (x ∷ xs)) (
  has_head x xs,
  λ n e. elim (has_cases n x xs e) [ inl same ↦ omega (arith, same) | inr t ↦ low n t ],
)

-- ---- what a test lets through

passing_more : (test : ℕ → Bool) (n x : ℕ) (xs : List ℕ) → has n (filter test xs) ≡ (test n && has n xs) → (t : Bool) → test x ≡ t
    → has n (if t then x ∷ filter test xs else filter test xs) ≡ (test n && ((x == n) || has n xs))
passing_more test n x xs ih true e = elim (cases_Bool (x == n)) [
  | inl same ↦
      let here : test n ≡ true = ap test (sym (eqb-true x n same)) ∙ e in
      ap (λ b. b || has n (filter test xs)) same ∙ sym (ap (λ b. b && ((x == n) || has n xs)) here ∙ ap (λ b. b || has n xs) same)
  | inr other ↦ ap (λ b. b || has n (filter test xs)) other ∙ ih ∙ sym (ap (λ b. test n && (b || has n xs)) other)
]
passing_more test n x xs ih false e = elim (cases_Bool (x == n)) [
  | inl same ↦
      let here : test n ≡ false = ap test (sym (eqb-true x n same)) ∙ e in
      ih ∙ ap (λ b. b && has n xs) here ∙ sym (ap (λ b. b && ((x == n) || has n xs)) here)
  | inr other ↦ ih ∙ sym (ap (λ b. test n && (b || has n xs)) other)
]

pub has_passing : (test : ℕ → Bool) (n : ℕ) (xs : List ℕ) → has n (filter test xs) ≡ (test n && has n xs)
has_passing test n [] = and_false (test n)
  where
    and_false : (b : Bool) → false ≡ (b && false)
    and_false true = refl
    and_false false = refl
has_passing test n (x ∷ xs) = passing_more test n x xs (has_passing test n xs) (test x) refl

pub has_moved : (n : ℕ) (xs ys : List ℕ) → IsPermutation xs ys → has n xs ≡ has n ys
has_moved n xs ys moved = list_any-IsPermutation (λ k. k == n) xs ys moved

pub again_moved : (n : ℕ) (xs ys : List ℕ) → IsPermutation xs ys → occurs_again xs n ≡ occurs_again ys n
again_moved n xs ys moved = ap (nat_lt 1) (sym (sum_by-IsPermutation (λ k. cond (k == n) 1 0) xs ys moved))

-- the same test on the same numbers in another order
pub least_moved : (test other : ℕ → Bool) (xs ys : List ℕ) → ((n : ℕ) → test n ≡ other n) → IsPermutation xs ys →
    least (filter test xs) ≡ least (filter other ys)
least_moved test other xs ys agree moved =
    least_same (filter test xs) (filter test ys) (λ n. has_passing test n xs ∙ ap (λ b. test n && b) (has_moved n xs ys moved) ∙ sym (has_passing test n ys))
    ∙ ap least (filter_agree test other agree ys)

-- ---- the lesser of two

abbrev lower : ℕ → ℕ → ℕ
lower m n = if nat_lt m n then m else n

lower_cases : (m n : ℕ) → ((lower m n ≡ m) × (m < n)) ⊎ ((lower m n ≡ n) × (n ≤ m))
lower_cases m n = elim (cases_Bool (nat_lt m n)) [
  | inl e ↦ inl (ap (λ b. if b then m else n) e, ltb-true m n e)
  | inr e ↦ inr (ap (λ b. if b then m else n) e, ltb-false m n e)
]

lower_turned : (m n : ℕ) → lower m n ≡ lower n m
lower_turned m n = let a = lower_cases m n in let b = lower_cases n m in grind (arith, a, b)

lower_moved : (k m n : ℕ) → lower k (lower m n) ≡ lower (lower k n) m
lower_moved k m n =
    let a = lower_cases m n in let b = lower_cases k n in let c = lower_cases k (lower m n) in
    let d = lower_cases (lower k n) m in
    grind (arith, a, b, c, d)

lower_grouped : (k m n : ℕ) → lower k (lower m n) ≡ lower (lower k m) n
lower_grouped k m n =
    let a = lower_cases m n in let b = lower_cases k m in let c = lower_cases k (lower m n) in
    let d = lower_cases (lower k m) n in
    grind (arith, a, b, c, d)

lower_same : (n : ℕ) → lower n n ≡ n
lower_same n = let a = lower_cases n n in grind (arith, a)

lower_again_first : (k n : ℕ) → lower (lower k n) n ≡ lower k n
lower_again_first k n =
    let a = lower_cases k n in let b = lower_cases (lower k n) n in
    grind (arith, a, b)

lower_again_last : (m n : ℕ) → lower n (lower m n) ≡ lower m n
lower_again_last m n =
    let a = lower_cases m n in let b = lower_cases n (lower m n) in
    grind (arith, a, b)

lower_again : (k m n : ℕ) → lower (lower k n) (lower m n) ≡ lower (lower k m) n
lower_again k m n =
    let a = lower_cases k n in let b = lower_cases m n in let c = lower_cases k m in
    let d = lower_cases (lower k n) (lower m n) in let e = lower_cases (lower k m) n in
    grind (arith, a, b, c, d, e)

-- a number joins those that were found
pub takes_one : (found rest : Option ℕ) (n : ℕ) → lesser_of (lesser n found) rest ≡ lesser_of found (lesser n rest)
takes_one None rest n = refl
takes_one (Some m) None n = ap Some (lower_turned m n)
takes_one (Some m) (Some k) n = ap Some (lower_moved k m n)

-- a number joins both, or the first alone
pub joins_first : (a b : Option ℕ) (n : ℕ) → lesser_of (lesser n a) b ≡ lesser n (lesser_of a b)
joins_first (Some m) (Some k) n = ap Some (lower_grouped k m n)
joins_first _ _ n = refl

pub joins_both : (a b : Option ℕ) (n : ℕ) → lesser_of (lesser n a) (lesser n b) ≡ lesser n (lesser_of a b)
joins_both None None n = ap Some (lower_same n)
joins_both None (Some k) n = ap Some (lower_again_first k n)
joins_both (Some m) None n = ap Some (lower_again_last m n)
joins_both (Some m) (Some k) n = ap Some (lower_again k m n)

either_more : (test other : ℕ → Bool) (x : ℕ) (xs : List ℕ) → lesser_of (least (filter test xs)) (least (filter other xs)) ≡ least
    (filter (λ n. test n || other n) xs)
    → (t u : Bool) → lesser_of (least (if t then x ∷ filter test xs else filter test xs)) (least (if u then x ∷ filter other xs else filter other xs))
    ≡ least (if t || u then x ∷ filter (λ n. test n || other n) xs else filter (λ n. test n || other n) xs)
either_more test other x xs ih true true = joins_both (least (filter test xs)) (least (filter other xs)) x ∙ ap (lesser x) ih
either_more test other x xs ih true false = joins_first (least (filter test xs)) (least (filter other xs)) x ∙ ap (lesser x) ih
either_more test other x xs ih false true =
    sym (takes_one (least (filter test xs)) (least (filter other xs)) x) ∙ joins_first (least (filter test xs)) (least (filter other xs)) x ∙ ap (lesser x) ih
either_more test other x xs ih false false = ih

-- what either of two tests lets through
pub least_either : (test other : ℕ → Bool) (xs : List ℕ) → lesser_of (least (filter test xs)) (least (filter other xs)) ≡ least
    (filter (λ n. test n || other n) xs)
least_either test other [] = refl
least_either test other (x ∷ xs) = either_more test other x xs (least_either test other xs) (test x) (other x)
