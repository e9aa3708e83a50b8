-- Parts of a list, one behind the other.
use Rattle.std.proofs.Common.{◌≡◌, refl, sym, ap, ◌∙◌, ℕ, zero, suc, ◌+◌, ◌≤◌, List, [], ◌∷◌, ◌++◌, length, take, drop, slice_get, Some, arith}
use Rattle.std.specs.List.{sum, sum_by}
use Rattle.std.proofs.lemmas.List.{take-append-le, drop-append-le, drop-drop, length-drop, length-take-le}
use Rattle.std.proofs.lemmas.List.Sums.{sum_by-cons}
use Rattle.dp_columns.specs.Paired.{split_by}

sum_cons : (n : ℕ) (ns : List ℕ) → sum (n ∷ ns) ≡ n + sum ns
sum_cons n ns = sum_by-cons (λ (x : ℕ). x) n ns

module _ {X : Type 0} where
  pub length_parts : (ns : List ℕ) (xs : List X) → length (split_by ns xs) ≡ length ns
  length_parts [] xs = refl
  length_parts (n ∷ ns) xs = ap suc (length_parts ns (drop n xs))

  -- more behind them changes nothing
  pub parts_longer : (ns : List ℕ) (xs ys : List X) → sum ns ≤ length xs → split_by ns (xs ++ ys) ≡ split_by ns xs
  parts_longer [] xs ys le = refl
  parts_longer (n ∷ ns) xs ys le =
      let first : n ≤ length xs = omega (arith, le, sum_cons n ns) in
      λ k. take-append-le n xs ys first k ∷ (ap (split_by ns) (drop-append-le n xs ys first)
      ∙ parts_longer ns (drop n xs) ys (omega (arith, le, sum_cons n ns, length-drop n xs))) k

  -- one part more
  pub parts_pushed : (ns : List ℕ) (n : ℕ) (xs : List X) → split_by (ns ++ n ∷ []) xs ≡ split_by ns xs ++ take n (drop (sum ns) xs) ∷ []
  parts_pushed [] n xs = refl
  parts_pushed (m ∷ ns) n xs =
      ap (λ (rest : List (List X)). take m xs ∷ rest)
      (parts_pushed ns n (drop m xs) ∙ ap (λ (d : List X). split_by ns (drop m xs) ++ take n d ∷ []) (drop-drop (sum ns) m xs
      ∙ ap (λ (k : ℕ). drop k xs) (omega (arith, sum_cons m ns))))

  -- the part at a place
  pub part_at : (ns : List ℕ) (at n : ℕ) (xs : List X) → slice_get ns at ≡ Some n → slice_get (split_by ns xs) at ≡ Some (take n (drop (sum (take at ns)) xs))
  part_at [] at n xs e = absurd (cc e)
  part_at (m ∷ ns) zero n xs e = let same : m ≡ n = cc in ap (λ (k : ℕ). Some (take k xs)) same
  part_at (m ∷ ns) (suc at) n xs e =
      part_at ns at n (drop m xs) e ∙ ap (λ (d : List X). Some (take n d)) (drop-drop (sum (take at ns)) m xs ∙ ap (λ (k : ℕ). drop k xs) (all ns at m))
    where
      all : (ns : List ℕ) (at m : ℕ) → m + sum (take at ns) ≡ sum (m ∷ take at ns)
      all ns at m = sym (sum_cons m (take at ns))

  -- where the part at a place begins
  pub parts_before : (ns : List ℕ) (at : ℕ) (xs : List X) → sum ns ≤ length xs → sum_by length (take at (split_by ns xs)) ≡ sum (take at ns)
  parts_before ns zero xs le = refl
  parts_before [] (suc at) xs le = refl
  parts_before (n ∷ ns) (suc at) xs le =
      let first = length-take-le n xs (omega (arith, le, sum_cons n ns)) in
      let rest = parts_before ns at (drop n xs) (omega (arith, le, sum_cons n ns, length-drop n xs)) in
      sum_by-cons length (take n xs) (take at (split_by ns (drop n xs))) ∙ (λ k. first k + rest k) ∙ sym (sum_cons n (take at ns))

pub sum_upto : (ns : List ℕ) (at n : ℕ) → slice_get ns at ≡ Some n → (sum (take (suc at) ns) ≡ sum (take at ns) + n) × (sum (take at ns) + n ≤ sum ns)
sum_upto [] at n e = absurd (cc e)
sum_upto (m ∷ ns) zero n e = let same : m ≡ n = cc in (sum_cons m [] ∙ omega (arith, same), omega (arith, same, sum_cons m ns))
sum_upto (m ∷ ns) (suc at) n e =
    let rest = sum_upto ns at n e in
    let long = sum_cons m (take (suc at) ns) in
    let short = sum_cons m (take at ns) in
    (long ∙ ap (λ k. m + k) rest.0 ∙ omega (arith, short), omega (arith, rest.1, short, sum_cons m ns))
