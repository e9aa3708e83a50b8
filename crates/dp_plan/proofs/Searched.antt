-- What a search in ascending numbers doesn't find isn't among them.
use Rattle.std.proofs.Common.{◌≡◌, inl, inr, arith, ℕ, ◌==◌, false, List, get_or, Err}
use Rattle.std.specs.List.Sorted.{IsNonDecreasing, IsBinarySearchResult}
use Rattle.std.specs.Ordering.{nat_cmp}
use Rattle.std.proofs.lemmas.Bool.{cases_lt, ne_eqb}
use Rattle.std.proofs.lemmas.List.Elements.{All-from_get_or}
use Rattle.std.proofs.lemmas.List.Folds.{list_any_none}
use Rattle.std.proofs.lemmas.List.Sorted.{searched}
use Rattle.dp_plan.specs.Written.{has}

pub absent : (xs : List ℕ) (n i : ℕ) → IsBinarySearchResult (λ y. nat_cmp y n) xs (Err i) → IsNonDecreasing xs → has n xs ≡ false
absent xs n i found up =
    let s = searched xs n (Err i) found (λ i j le lt. up i j 0 le lt) in
    list_any_none (λ k. k == n) xs (All-from_get_or (λ k. (k == n) ≡ false) xs 0 (λ k lt.
    ne_eqb (get_or xs k 0) n (λ same. elim (cases_lt k i) [
      | inl before ↦ omega (arith, same, s.1 k before)
      | inr behind ↦
          omega (arith, same, s.2 k behind lt)
    ])))
