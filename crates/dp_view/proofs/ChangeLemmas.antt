-- The cells that changed, found among those that were stored.
use Rattle.std.proofs.Common.{◌≡◌, inl, inr, refl, sym, ap, ◌∙◌, arith, ℕ, zero, suc, ◌+◌, ◌-◌, ◌<◌, ◌≤◌, ◌&&◌, if◌then◌else◌, Bool, true, false, List, [], ◌∷◌}
use Rattle.std.proofs.Common.{◌++◌, filter, nat_le, nat_lt, le-leb, lt-ltb}
use Rattle.std.specs.List.Sorted.{IsNonDecreasing}
use Rattle.std.proofs.lemmas.Bool.{cases_Bool, cases_lt, cases_eq, lt-leb, le-ltb}
use Rattle.std.proofs.lemmas.List.Elements.{filter-append}
use Rattle.dp_tree.specs.Numbering.{numbers_from}
use Rattle.dp_tree.proofs.NumberLists.{numbers_from-append}
use Rattle.dp_plan.specs.Written.{has}
use Rattle.dp_view.proofs.CellLemmas.{has_past}

module _ (test : ℕ → Bool) (n : ℕ) where
  -- the cells from number b on that pass, found in an ascending list
  abbrev pub found_from : ℕ → List ℕ → List ℕ
  found_from b [] = []
  found_from b (c ∷ rest) = if nat_le b c && nat_lt c n then (if test c then c ∷ found_from (c + 1) rest else found_from (c + 1) rest) else found_from b rest

  -- each number of the list is this at least
  abbrev Above : ℕ → List ℕ → Type 0
  Above low [] = Unit {0}
  Above low (c ∷ rest) = (low ≤ c) × Above c rest

  above_has : (low d : ℕ) (xs : List ℕ) → Above low xs → has d xs ≡ true → low ≤ d
  above_has low d [] up e = absurd (cc)
  above_has low d (c ∷ rest) up e = elim (cases_eq c d) [
    | inl same ↦ let h = up.0 in omega (arith, same, h)
    | inr other ↦ let h = up.0 in let later = above_has c d rest up.1 (sym (has_past d c rest other) ∙ e) in omega (arith, h, later)
  ]

  -- no number of a range passes
  none_pass : (count b : ℕ) → ((d : ℕ) → b ≤ d → d < b + count → test d ≡ false) → filter test (numbers_from b count) ≡ []
  none_pass zero b h = refl
  none_pass (suc count) b h = rw (h b (omega arith) (omega arith)) (none_pass count (b + 1) (λ d low high. h d (omega (arith, low)) (omega (arith, high))))

  -- Where the list has all numbers that pass, they are found.
  pub found_all : (b : ℕ) (xs : List ℕ) → b ≤ n → (low : ℕ) → Above low xs → ((d : ℕ) → b ≤ d → d < n → test d ≡ true → has d xs ≡ true) →
      found_from b xs ≡ filter test (numbers_from b (n - b))
  found_all b [] within low up all = sym (none_pass (n - b) b (λ d l h. elim (cases_Bool (test d)) [
    | inl t ↦ let clash : false ≡ true = all d l (omega (arith, h, within)) t in absurd (cc clash)
    | inr f ↦ f
  ]))
  found_all b (c ∷ rest) within low up all = elim (cases_lt c b) [
    | inl less ↦ rw (lt-leb b c less) (found_all b rest within c up.1 (λ d l h t. sym (has_past d c rest (λ e. omega (arith, e, less, l))) ∙ all d l h t))
    | inr most ↦ elim (cases_lt c n) [
      | inl in_range ↦ rw (le-leb b c most, lt-ltb c n in_range)
          (ap (λ (xs : List ℕ). if test c then c ∷ xs else xs) (found_all (c + 1) rest (omega (arith, in_range)) c up.1
          (λ d l h t. sym (has_past d c rest (λ e. omega (arith, e, l))) ∙ all d (omega (arith, l, most)) h t))
          ∙ sym (split most in_range))
      | inr out ↦ rw (le-leb b c most, le-ltb c n out)
          (found_all b rest within c up.1 (λ d l h t. sym (has_past d c rest (λ e. omega (arith, e, out, h))) ∙ all d l h t))
    ]
  ]
    where
      split : b ≤ c → c < n → filter test (numbers_from b (n - b)) ≡ (if test c then c ∷ filter test (numbers_from (c + 1) (n - (c + 1)))
          else filter test (numbers_from (c + 1) (n - (c + 1))))
      split most high =
          let size : n - b ≡ (c - b) + suc (n - (c + 1)) = omega (arith, most, high) in
          let at : b + (c - b) ≡ c = omega (arith, most) in
          ap (λ (k : ℕ). filter test (numbers_from b k)) size
          ∙ ap (filter test) (numbers_from-append b (c - b) (suc (n - (c + 1))))
          ∙ filter-append test (numbers_from b (c - b)) (numbers_from (b + (c - b)) (suc (n - (c + 1))))
          ∙ ap (λ (xs : List ℕ). xs ++ filter test (numbers_from (b + (c - b)) (suc (n - (c + 1)))))
          (none_pass (c - b) b (λ d l h. elim (cases_Bool (test d)) [
            | inl t ↦ let h' : d < c = omega (arith, h, at) in let there = all d l (omega (arith, h', high)) t in
                let past : has d rest ≡ true = sym (has_past d c rest (λ e. omega (arith, e, h'))) ∙ there in
                let up' = above_has c d rest up.1 past in absurd (omega (arith, up', h'))
            | inr f ↦ f
          ]))
          ∙ ap (λ (k : ℕ). filter test (numbers_from k (suc (n - (c + 1))))) at

-- a list that doesn't decrease
pub ascending : (test : ℕ → Bool) (n : ℕ) (xs : List ℕ) → IsNonDecreasing xs → Above test n 0 xs
ascending test n [] h = tt
ascending test n (x ∷ xs) h = (omega arith, by x xs h)
  where
    by : (x : ℕ) (xs : List ℕ) → IsNonDecreasing (x ∷ xs) → Above test n x xs
    by x [] h = tt
    by x (y ∷ xs) h = (h 0 1 0 (omega arith) (omega arith), by y xs (λ i j d l w. h (suc i) (suc j) d (omega (arith, l)) (omega (arith, w))))

pub changes_found : (test : ℕ → Bool) (n : ℕ) (xs : List ℕ) → IsNonDecreasing xs → ((d : ℕ) → d < n → test d ≡ true → has d xs ≡ true) →
    found_from test n 0 xs ≡ filter test (numbers_from 0 n)
changes_found test n xs up all =
    let whole : n - 0 ≡ n = omega arith in
    found_all test n 0 xs (omega arith) 0 (ascending test n xs up) (λ d l h t. all d h t) ∙ ap (λ (k : ℕ). filter test (numbers_from 0 k)) whole
