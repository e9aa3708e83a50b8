-- The weights of units.
use Rattle.std.proofs.Common.{◌≡◌, inl, inr, refl, ◌∙◌, ap, arith, ℕ, zero, suc, ◌+◌, ◌-◌, ◌<◌, ◌≤◌, ◌==◌, if◌then◌else◌, Bool, true, false, List, [], ◌∷◌}
use Rattle.std.proofs.Common.{length, map, sum, drop, add-one, slice_index_or}
use Rattle.std.proofs.lemmas.Bool.{cases_eq, ne_eqb}
use Rattle.std.proofs.lemmas.List.{length-map}
use Rattle.std.proofs.lemmas.List.Sums.{sum_by-cons}
use Rattle.dp_tree.specs.Numbering.{numbers_from}
use Rattle.dp_cut.specs.LeastPlan.{unit_weight, unit_weights}
use Rattle.dp_tree.proofs.NumberLists.{length-numbers_from}

abbrev pub share_of : ℕ → ℕ → ℕ → ℕ
share_of at place weight = if at == place then weight else 0

share_le : (b : Bool) (w : ℕ) → (if b then w else 0) ≤ w
share_le true w = omega arith
share_le false w = omega arith

sum_cons : (x : ℕ) (xs : List ℕ) → sum (x ∷ xs) ≡ x + sum xs
sum_cons x xs = sum_by-cons (λ (y : ℕ). y) x xs

pub unit_weight_le : (places weights : List ℕ) (k : ℕ) → unit_weight places weights k ≤ sum weights
unit_weight_le [] weights k = omega arith
unit_weight_le (q ∷ places) [] k = omega arith
unit_weight_le (q ∷ places) (w ∷ weights) k = let rest = unit_weight_le places weights k in let one = share_le (q == k) w in let all = sum_cons w weights in
    omega (arith, rest, one, all)

pub unit_next : (places weights : List ℕ) (k i : ℕ) → i < length places → length places ≡ length weights
    → unit_weight (drop i places) (drop i weights) k ≡ share_of (slice_index_or places i 0) k (slice_index_or weights i 0) + unit_weight (drop (i + 1) places)
    (drop (i + 1) weights) k
unit_next places weights k i h e = rw add-one (by places weights i h e)
  where
    by : (places weights : List ℕ) (i : ℕ) → i < length places → length places ≡ length weights
        → unit_weight (drop i places) (drop i weights) k ≡ share_of (slice_index_or places i 0) k (slice_index_or weights i 0) + unit_weight
        (drop (suc i) places) (drop (suc i) weights) k
    by [] weights i h e = absurd (omega (arith, h))
    by (q ∷ places) [] i h e = absurd (omega (arith, e))
    by (q ∷ places) (w ∷ weights) zero h e = refl
    by (q ∷ places) (w ∷ weights) (suc i) h e = by places weights i (omega (arith, h)) (omega (arith, e))

pub count_next : (place count : ℕ) → place < count → numbers_from place (count - place) ≡ place ∷ numbers_from (place + 1) (count - (place + 1))
count_next place count h = let e : count - place ≡ suc (count - (place + 1)) = omega (arith, h) in ap (numbers_from place) e

pub units_length : (count : ℕ) (places weights : List ℕ) → length (unit_weights count places weights) ≡ count
units_length count places weights = length-map (numbers_from 0 count) (unit_weight places weights) ∙ length-numbers_from 0 count

-- a weight goes to one of the places at most
abbrev shares : ℕ → ℕ → List ℕ → List ℕ
shares q w [] = []
shares q w (k ∷ ks) = share_of q k w ∷ shares q w ks

none_shared : (q w i m : ℕ) → q < i → sum (shares q w (numbers_from i m)) ≡ 0
none_shared q w i zero h = refl
none_shared q w i (suc m) h =
    let here : share_of q i w ≡ 0 = ap (λ b. if b then w else 0) (ne_eqb q i (λ e. omega (arith, e, h))) in
    let rest = none_shared q w (i + 1) m (omega (arith, h)) in
    let all = sum_cons (share_of q i w) (shares q w (numbers_from (i + 1) m)) in omega (arith, here, rest, all)

shared_once : (q w i m : ℕ) → sum (shares q w (numbers_from i m)) ≤ w
shared_once q w i zero = omega arith
shared_once q w i (suc m) =
    let all = sum_cons (share_of q i w) (shares q w (numbers_from (i + 1) m)) in
    elim (cases_eq q i) [
      | inl same ↦
          let here : share_of q i w ≤ w = share_le (q == i) w in
          let rest = none_shared q w (i + 1) m (omega (arith, same)) in omega (arith, here, rest, all)
      | inr other ↦
          let here : share_of q i w ≡ 0 = ap (λ b. if b then w else 0) (ne_eqb q i other) in
          let rest = shared_once q w (i + 1) m in omega (arith, here, rest, all)
    ]

split_sum : (q w : ℕ) (places weights ks : List ℕ) → sum (map (unit_weight (q ∷ places) (w ∷ weights)) ks) ≡ sum (shares q w ks) + sum
    (map (unit_weight places weights) ks)
split_sum q w places weights [] = refl
split_sum q w places weights (k ∷ ks) =
    let rest = split_sum q w places weights ks in
    let one = sum_cons (unit_weight (q ∷ places) (w ∷ weights) k) (map (unit_weight (q ∷ places) (w ∷ weights)) ks) in
    let two = sum_cons (share_of q k w) (shares q w ks) in
    let three = sum_cons (unit_weight places weights k) (map (unit_weight places weights) ks) in
    omega (arith, rest, one, two, three)

none_weighs : (q : ℕ) (places ks : List ℕ) → sum (map (unit_weight (q ∷ places) []) ks) ≡ 0
none_weighs q places [] = refl
none_weighs q places (k ∷ ks) = let all = sum_cons 0 (map (unit_weight (q ∷ places) []) ks) in let rest = none_weighs q places ks in omega (arith, all, rest)

no_places : (weights ks : List ℕ) → sum (map (unit_weight [] weights) ks) ≡ 0
no_places weights [] = refl
no_places weights (k ∷ ks) = let all = sum_cons 0 (map (unit_weight [] weights) ks) in let rest = no_places weights ks in omega (arith, all, rest)

pub units_total : (count : ℕ) (places weights : List ℕ) → sum (unit_weights count places weights) ≤ sum weights
units_total count [] weights = let e = no_places weights (numbers_from 0 count) in omega (arith, e)
units_total count (q ∷ places) [] = let e = none_weighs q places (numbers_from 0 count) in omega (arith, e)
units_total count (q ∷ places) (w ∷ weights) =
    let rest = units_total count places weights in
    let split = split_sum q w places weights (numbers_from 0 count) in
    let once = shared_once q w 0 count in
    let all = sum_cons w weights in
    omega (arith, rest, split, once, all)
