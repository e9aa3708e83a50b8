-- Lists behind a seam.
use Rattle.std.proofs.Common.{◌≡◌, refl, ap, ◌∙◌, ℕ, zero, suc, ◌+◌, ◌-◌, ◌≤◌, Bool, true, false, not, if◌then◌else◌, List, [], ◌∷◌, ◌++◌, inl, inr, length}
use Rattle.std.proofs.Common.{take, Some, slice_get, slice_range, arith}
use Rattle.std.proofs.lemmas.Bool.{cases_Bool, and_parts}
use Rattle.std.proofs.Math.Seq.{take-append_seam}
use Rattle.std.specs.List.{list_all}
use Rattle.dp_tree.specs.Iteration.{places}
use Rattle.dp_room.proofs.ListLemmas.{get_behind}

-- the item behind the seam
pub get_at_seam : {X : Type 0} (a b : List X) (n : ℕ) (x : X) (more : List X) → n ≡ length a → b ≡ x ∷ more → slice_get (a ++ b) n ≡ Some x
get_at_seam a b n x more e is =
    let size : n ≡ length a + 0 = omega (arith, e) in
    ap (slice_get (a ++ b)) size ∙ get_behind a b 0 ∙ ap (λ (xs : List _). slice_get xs 0) is

-- a front that reaches past the seam
pub take_past : {X : Type 0} (a b : List X) (k : ℕ) → length a ≤ k → take k (a ++ b) ≡ a ++ take (k - length a) b
take_past [] b k h = let e : k ≡ k - 0 = omega arith in ap (λ (n : ℕ). take n b) e
take_past (x ∷ a) b zero h = absurd (omega (arith, h))
take_past (x ∷ a) b (suc k) h =
    let e : k - length a ≡ suc k - suc (length a) = omega arith in
    ap (λ (xs : List _). x ∷ xs) (take_past a b k (omega (arith, h)) ∙ ap (λ (n : ℕ). a ++ take n b) e)

pub range_past : {X : Type 0} (a b : List X) (k : ℕ) → length a ≤ k → slice_range (a ++ b) 0 k ≡ a ++ take (k - length a) b
range_past a b k h = let e : k - 0 ≡ k = omega arith in ap (λ (n : ℕ). take n (a ++ b)) e ∙ take_past a b k h

pub range_front : {X : Type 0} (a b : List X) → slice_range (a ++ b) 0 (length a) ≡ a
range_front a b = let e : length a - 0 ≡ length a + 0 = omega arith in
    ap (λ (n : ℕ). take n (a ++ b)) e ∙ (let s : length a + 0 ≡ length a = omega arith in ap (λ (n : ℕ). take n (a ++ b)) s) ∙ take-append_seam a b

-- none of the first list passes
pub places_behind : {X : Type 0} (test : X → Bool) (k : ℕ) (a b : List X) → list_all (λ x. not (test x)) a ≡ true →
    places test k (a ++ b) ≡ places test (k + length a) b
places_behind test k [] b h = let e : k ≡ k + 0 = omega arith in ap (λ (n : ℕ). places test n b) e
places_behind test k (x ∷ a) b h =
    let parts = and_parts (not (test x)) (list_all (λ y. not (test y)) a) h in
    let e : suc k + length a ≡ k + suc (length a) = omega arith in
    off (test x) parts.0 ∙ places_behind test (suc k) a b parts.1 ∙ ap (λ (n : ℕ). places test n b) e
  where
    off : (t : Bool) → not t ≡ true → (if t then k ∷ places test (suc k) (a ++ b) else places test (suc k) (a ++ b)) ≡ places test (suc k) (a ++ b)
    off false e = refl
    off true e = absurd (cc)

-- places are counted upward
pub places_from : {X : Type 0} (test : X → Bool) (k i j : ℕ) (xs : List X) → slice_get (places test k xs) i ≡ Some j → k ≤ j
places_from test k i j [] e = absurd (cc)
places_from test k zero j (x ∷ xs) e = elim (cases_Bool (test x)) [
  | inl t ↦ let found : Some k ≡ Some j = rw t at e in let same : k ≡ j = cc found in omega (arith, same)
  | inr t ↦ let later = places_from test (suc k) zero j xs (rw t at e) in omega (arith, later)
]
places_from test k (suc i) j (x ∷ xs) e = elim (cases_Bool (test x)) [
  | inl t ↦ let later = places_from test (suc k) i j xs (rw t at e) in omega (arith, later)
  | inr t ↦ let later = places_from test (suc k) (suc i) j xs (rw t at e) in omega (arith, later)
]
