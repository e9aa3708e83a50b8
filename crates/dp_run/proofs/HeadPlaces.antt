-- Places in a list that pass a test: what stands there.
use Rattle.std.proofs.Common.{◌≡◌, refl, ap, ◌∙◌, ℕ, zero, suc, Bool, true, List, [], ◌∷◌, ◌++◌, length, Some, slice_get, inl, inr, arith}
use Rattle.std.proofs.lemmas.Bool.{cases_Bool}
use Rattle.dp_tree.specs.Iteration.{places}
use Rattle.dp_theorem.proofs.Runs.{place_at}

seam : {X : Type 0} (front : List X) (x : X) (rest : List X) → slice_get (front ++ x ∷ rest) (length front) ≡ Some x
seam [] x rest = refl
seam (y ∷ front) x rest = seam front x rest

-- the element at a place that passes the test
pub record FoundAt {X : Type 0} (test : X → Bool) (xs : List X) (k : ℕ) : Type 0 where
  pub found : X
  pub at : slice_get xs k ≡ Some found
  pub passes : test found ≡ true

pub found_at : {X : Type 0} (test : X → Bool) (xs : List X) (i k : ℕ) → slice_get (places test 0 xs) i ≡ Some k → FoundAt test xs k
found_at test xs i k e =
    let q = place_at test xs 0 i k e in
    let place : k ≡ length q.front = omega (arith, q.place_is) in
    record {
      found = q.found;
      at = ap (λ (l : List _). slice_get l k) q.is ∙ ap (slice_get
          (q.front ++ q.found ∷ q.behind)) place ∙ seam q.front q.found q.behind;
      passes = q.passes;
    }

pub no_place : {X : Type 0} (test : X → Bool) (xs : List X) (n i : ℕ) (x : X) → places test n xs ≡ [] → slice_get xs i ≡ Some x → test x ≡ true → ⊥
no_place test [] n i x none at t = cc at
no_place test (y ∷ xs) n zero x none at t = let same : y ≡ x = cc at in let here : test y ≡ true = ap test same ∙ t in
    let bad : n ∷ places test (suc n) xs ≡ [] = rw here at none in cc bad
no_place test (y ∷ xs) n (suc i) x none at t = elim (cases_Bool (test y)) [
  | inl here ↦ let bad : n ∷ places test (suc n) xs ≡ [] = rw here at none in absurd (cc bad)
  | inr off ↦ no_place test xs (suc n) i x (rw off at none) at t
]
