-- What is so of each of a list at its place.
use Rattle.std.proofs.Common.{arith, ◌≡◌, ℕ, zero, suc, ◌+◌, Bool, true, false, ◌&&◌, List, [], ◌∷◌, slice_get, Some, refl, subst}
use Rattle.std.specs.List.{list_all}
use Rattle.dp_pipeline.specs.Sizes.{EachFrom}

module _ {X : Type 0} (P : ℕ → X → Type 0) where
  -- each is, place by place
  pub each_of : (n : ℕ) (xs : List X) → ((i : ℕ) (x : X) → slice_get xs i ≡ Some x → P (n + i) x) → EachFrom P n xs
  each_of n [] one = tt
  each_of n (x ∷ xs) one =
      let here : n + 0 ≡ n = omega arith in (
        subst (λ (k : ℕ). P k x) here (one zero x refl),
        each_of (suc n) xs (λ i y at. (let there : n + suc i ≡ suc n + i = omega arith in subst (λ (k : ℕ). P k y) there (one (suc i) y at))),
      )

both_true : (a b : Bool) → (a && b) ≡ true → (a ≡ true) × (b ≡ true)
both_true true true e = (refl, refl)
both_true true false e = absurd (cc e)
both_true false b e = absurd (cc e)

-- each of a list passes a test that all pass
pub all_at : {X : Type 0} (p : X → Bool) (xs : List X) → list_all p xs ≡ true → (i : ℕ) (x : X) → slice_get xs i ≡ Some x → p x ≡ true
all_at p [] all i x at = absurd (cc at)
all_at p (y ∷ xs) all zero x at = let same : y ≡ x = cc at in subst (λ z. p z ≡ true) same (both_true (p y) (list_all p xs) all).0
all_at p (y ∷ xs) all (suc i) x at = all_at p xs (both_true (p y) (list_all p xs) all).1 i x at
