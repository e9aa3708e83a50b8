-- The weight of a stretch, unit by unit.
use Rattle.std.proofs.Common.{◌≡◌, ◌∙◌, ap, arith, ℕ, ◌<◌, ◌≤◌, ◌+◌, ◌-◌, List, [], ◌∷◌, length, take, drop, sum, get_or, slice_index, length-drop, zero-add}
use Rattle.std.proofs.lemmas.List.{get_or-drop, take_more}
use Rattle.std.proofs.lemmas.List.Sums.{sum_by-take-le, sum_by-take-drop, sum_by-append}
use Rattle.dp_least_cut.specs.Allowed.{weight_between}

pub weight_none : (ws : List ℕ) (i : ℕ) → weight_between ws i i ≡ 0
weight_none ws i = let e : i - i ≡ 0 = omega arith in ap (λ k. sum (take k (drop i ws))) e

pub weight_more : (ws : List ℕ) (i j : ℕ) → i ≤ j → j < length ws → weight_between ws i (j + 1) ≡ weight_between ws i j + slice_index ws j
weight_more ws i j h k =
    let xs : List ℕ = drop i ws in
    let n : ℕ = j - i in
    let next : (j + 1) - i ≡ n + 1 = omega (arith, h) in
    let long : n < length xs = omega (arith, length-drop i ws, h, k) in
    let there : i + n ≡ j = omega (arith, h) in
    ap (λ m. sum (take m xs)) next ∙ ap sum (take_more xs n 0 long) ∙ sum_by-append (λ (x : ℕ). x) (take n xs) (get_or xs n 0 ∷ [])
    ∙ ap (λ x. sum (take n xs) + x) (zero-add (get_or xs n 0)) ∙ ap (λ x. sum (take n xs) + x) (get_or-drop i ws n 0 ∙ ap (λ m. get_or ws m 0) there)

pub weight_low : (ws : List ℕ) (i j : ℕ) → weight_between ws i j ≤ sum ws
weight_low ws i j =
    let front = sum_by-take-le (λ (x : ℕ). x) (drop i ws) (j - i) in
    let whole = sum_by-take-drop (λ (x : ℕ). x) ws i in
    omega (arith, front, whole)
