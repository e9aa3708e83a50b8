-- Lists that are moved: places, ranges and counts behind a front.
use Rattle.std.proofs.Common.{◌≡◌, refl, sym, ap, ap₂, ◌∙◌, ℕ, zero, suc, ◌+◌, ◌-◌, ◌<◌, ◌≤◌, Bool, true, false, if◌then◌else◌, List, [], ◌∷◌, ◌++◌, length}
use Rattle.std.proofs.Common.{take, drop, map, Option, Some, None, slice_get, inl, inr, slice_range, count_by, nat_lt, cond, lt-ltb, le-ltb, arith}
use Rattle.std.specs.Option.{option_map}
use Rattle.std.proofs.lemmas.Bool.{cases_lt}
use Rattle.std.proofs.lemmas.List.{drop-drop}
use Rattle.std.proofs.lemmas.List.Sums.{sum_by-cons}
use Rattle.dp_tree.specs.Iteration.{places}
use Rattle.dp_tree.specs.GoesOn.{moved}
use Rattle.dp_tree.proofs.Places.{places_up}

-- what stands at a place behind the front
pub at_drop : {X : Type 0} (k i : ℕ) (xs : List X) → slice_get xs (k + i) ≡ slice_get (drop k xs) i
at_drop zero i xs = let same : 0 + i ≡ i = omega arith in ap (slice_get xs) same
at_drop (suc k) i [] = refl
at_drop (suc k) i (x ∷ xs) = let same : suc k + i ≡ suc (k + i) = omega arith in ap (slice_get (x ∷ xs)) same ∙ at_drop k i xs

pub range_moved : {X : Type 0} (xs : List X) (k a b : ℕ) → slice_range xs (k + a) (k + b) ≡ slice_range (drop k xs) a b
range_moved {X = X} xs k a b =
    let many : (k + b) - (k + a) ≡ b - a = omega arith in
    ap (λ (n : ℕ). take n (drop (k + a) xs)) many ∙ ap (λ (ys : List X). take (b - a) ys) (sym (drop-drop a k xs))

-- The numbers that pass a test.
module _ (test : ℕ → Bool) where
  count_next : (n : ℕ) (ns : List ℕ) (b : Bool) → test n ≡ b → count_by test (n ∷ ns) ≡ cond b 1 0 + count_by test ns
  count_next n ns b e = sum_by-cons (λ (m : ℕ). cond (test m) 1 0) n ns ∙ ap (λ (c : Bool). cond c 1 0 + count_by test ns) e

module _ {X : Type 0} (test : X → Bool) where
  -- the places behind the front are those of the rest, moved
  pub places_moved : (k : ℕ) (xs : List X) → places test k xs ≡ map (λ (n : ℕ). k + n) (places test 0 xs)
  places_moved zero xs = same (places test 0 xs)
    where
      same : (ns : List ℕ) → ns ≡ map (λ (n : ℕ). 0 + n) ns
      same [] = refl
      same (n ∷ ns) = let e : n ≡ 0 + n = omega arith in ap (λ (m : ℕ). m ∷ ns) e ∙ ap (λ (ms : List ℕ). (0 + n) ∷ ms) (same ns)
  places_moved (suc k) xs = places_up test k xs ∙ ap (map (λ (n : ℕ). suc n)) (places_moved k xs) ∙ one_more (places test 0 xs)
    where
      one_more : (ns : List ℕ) → map (λ (n : ℕ). suc n) (map (λ (n : ℕ). k + n) ns) ≡ map (λ (n : ℕ). suc k + n) ns
      one_more [] = refl
      one_more (n ∷ ns) = let e : suc (k + n) ≡ suc k + n = omega arith in ap (λ (m : ℕ). m ∷ map (λ (n : ℕ). suc n) (map (λ (n : ℕ). k + n) ns)) e
          ∙ ap (λ (ms : List ℕ). (suc k + n) ∷ ms) (one_more ns)

  pub places_split : (k : ℕ) (a b : List X) → places test k (a ++ b) ≡ places test k a ++ places test (k + length a) b
  places_split k [] b = let same : k ≡ k + 0 = omega arith in ap (λ (n : ℕ). places test n b) same
  places_split k (x ∷ a) b = by (places_split (suc k) a b) (test x)
    where
      later : places test (suc k) (a ++ b) ≡ places test (suc k) a ++ places test (suc k + length a) b → places test (suc k) (a ++ b) ≡ places test (suc k) a
          ++ places test (k + suc (length a)) b
      later go = let same : suc k + length a ≡ k + suc (length a) = omega arith in go ∙ ap (λ (n : ℕ). places test (suc k) a ++ places test n b) same

      by : places test (suc k) (a ++ b) ≡ places test (suc k) a ++ places test (suc k + length a) b →
          (t : Bool) → (if t then k ∷ places test (suc k) (a ++ b) else places test (suc k) (a ++ b)) ≡ (if t then k ∷ places test (suc k) a
          else places test (suc k) a) ++ places test (k + suc (length a)) b
      by go true = ap (λ (ns : List ℕ). k ∷ ns) (later go)
      by go false = later go

  -- all places of a list are below its end, and none is below where it is counted from
  pub count_below : (n k : ℕ) (xs : List X) → k + length xs ≤ n → count_by (λ m. nat_lt m n) (places test k xs) ≡ length (places test k xs)
  count_below n k [] h = refl
  count_below n k (x ∷ xs) h = by (count_below n (suc k) xs (omega (arith, h))) (test x)
    where
      below : k < n
      below = omega (arith, h)

      by : count_by (λ m. nat_lt m n) (places test (suc k) xs) ≡ length (places test (suc k) xs) →
          (t : Bool) → count_by (λ m. nat_lt m n) (if t then k ∷ places test (suc k) xs else places test (suc k) xs) ≡ length
          (if t then k ∷ places test (suc k) xs else places test (suc k) xs)
      by later true = omega (arith, count_next (λ m. nat_lt m n) k (places test (suc k) xs) true (lt-ltb k n below), later)
      by later false = later

  pub count_above : (n k : ℕ) (xs : List X) → n ≤ k → count_by (λ m. nat_lt m n) (places test k xs) ≡ 0
  count_above n k [] h = refl
  count_above n k (x ∷ xs) h = by (count_above n (suc k) xs (omega (arith, h))) (test x)
    where
      by : count_by (λ m. nat_lt m n) (places test (suc k) xs) ≡ 0 → (t : Bool) →
          count_by (λ m. nat_lt m n) (if t then k ∷ places test (suc k) xs else places test (suc k) xs) ≡ 0
      by later true = omega (arith, count_next (λ m. nat_lt m n) k (places test (suc k) xs) false (le-ltb k n h), later)
      by later false = later

  -- a place and the number of places before it
  abbrev Counted : ℕ → ℕ → ℕ → List ℕ → Type 0
  Counted k i n ns = (count_by (λ m. nat_lt m n) ns ≡ i) × (k ≤ n)

  -- the i-th place has i places before it
  pub count_to : (k : ℕ) (xs : List X) (i n : ℕ) → slice_get (places test k xs) i ≡ Some n → Counted k i n (places test k xs)
  count_to k [] i n e = absurd (cc)
  count_to k (x ∷ xs) i n e = by (λ j. count_to (suc k) xs j n) (test x) i e
    where
      by : ((j : ℕ) → slice_get (places test (suc k) xs) j ≡ Some n → Counted (suc k) j n (places test (suc k) xs)) →
          (t : Bool) (i : ℕ) → slice_get (if t then k ∷ places test (suc k) xs else places test (suc k) xs) i ≡ Some n →
          Counted k i n (if t then k ∷ places test (suc k) xs else places test (suc k) xs)
      by go true zero e =
          let same : k ≡ n = cc in (
            omega (
              arith,
              count_next (λ m. nat_lt m n) k (places test (suc k) xs) false (le-ltb k n (omega (arith, same))),
              count_above n (suc k) xs (omega
                  (arith, same)),
            ),
            omega (arith, same),
          )
      by go true (suc i) e =
          let q = go i e in
          (omega (arith, count_next (λ m. nat_lt m n) k (places test (suc k) xs) true (lt-ltb k n (omega (arith, q.1))), q.0), omega (arith, q.1))
      by go false i e = let q = go i e in (q.0, omega (arith, q.1))

pub same_test : (k m n : ℕ) → nat_lt (k + m) (k + n) ≡ nat_lt m n
same_test k m n = elim (cases_lt m n) [
  | inl h ↦ lt-ltb (k + m) (k + n) (omega (arith, h)) ∙ sym (lt-ltb m n h)
  | inr h ↦
      le-ltb (k + m) (k + n) (omega (arith, h)) ∙ sym (le-ltb m n h)
]

-- numbers that are moved are below the moved bound where they were below the bound
pub count_moved : (k n : ℕ) (ns : List ℕ) → count_by (λ m. nat_lt m (k + n)) (map (λ (m : ℕ). k + m) ns) ≡ count_by (λ m. nat_lt m n) ns
count_moved k n [] = refl
count_moved k n (m ∷ ns) =
    sum_by-cons (λ (i : ℕ). cond (nat_lt i (k + n)) 1 0) (k + m) (map (λ (i : ℕ). k + i) ns) ∙ ap₂ (λ (b : Bool) (i : ℕ). cond b 1 0 + i) (same_test k m n)
    (count_moved k n ns)
    ∙ sym (sum_by-cons (λ (i : ℕ). cond (nat_lt i n) 1 0) m ns)

pub moved_map : (k : ℕ) (o : Option ℕ) → option_map (λ (n : ℕ). k + n) o ≡ moved k o
moved_map k None = refl
moved_map k (Some n) = refl
