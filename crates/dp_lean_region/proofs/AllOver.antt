-- A test of each number of a range, one after the other.
use Rattle.std.proofs.Common.{◌≡◌, sym, ap, ◌∙◌, arith, ℕ, suc, ◌+◌, ◌-◌, ◌<◌, ◌&&◌, Bool, true, false}
use Rattle.std.specs.List.{list_all}
use Rattle.dp_tree.specs.Numbering.{numbers_from}

module _ (test : ℕ → Bool) (first place n : ℕ) (whole : Bool) where
  abbrev Left : ℕ → Bool
  Left k = list_all test (numbers_from (first + k) (n - k))

  opened : place < n → Left place ≡ (test (first + place) && Left (place + 1))
  opened low =
      let left : n - place ≡ suc (n - (place + 1)) = omega (arith, low) in
      let onward : (first + place) + 1 ≡ first + (place + 1) = omega arith in
      ap (λ (k : ℕ). list_all test (numbers_from (first + place) k)) left
      ∙ ap (λ (k : ℕ). test (first + place) && list_all test (numbers_from k (n - (place + 1)))) onward

  -- it passes: the others are left
  pub all_next : place < n → test (first + place) ≡ true → Left place ≡ whole → Left (place + 1) ≡ whole
  all_next low passes made = sym (opened low ∙ ap (λ b. b && Left (place + 1)) passes) ∙ made

  -- it doesn't
  pub all_fails : place < n → test (first + place) ≡ false → Left place ≡ whole → false ≡ whole
  all_fails low fails made = sym (opened low ∙ ap (λ b. b && Left (place + 1)) fails) ∙ made
