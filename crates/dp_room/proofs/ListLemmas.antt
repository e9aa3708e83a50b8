-- What stands at a place of a list.
use Rattle.std.proofs.Common.{◌≡◌, ◌⊎◌, inl, inr, refl, sym, ap, ◌∙◌, ℕ, zero, suc, ◌+◌, ◌<◌, List, [], ◌∷◌, ◌++◌, length, drop, set, get_or, add-one}
use Rattle.std.proofs.Common.{drop-cons, Some, slice_get, arith}
use Rattle.std.proofs.lemmas.List.{get_or-set_same, length-set, set_past}
use Rattle.std.proofs.lemmas.Option.{slice_get-get_or}

-- a store past the end changes nothing
pub ruleset stores = (set_past)

pub at_index : {X : Type 0} (xs : List X) (k : ℕ) → k < length xs → (x : X) × (slice_get xs k ≡ Some x)
at_index [] k h = absurd (omega (arith, h))
at_index (x ∷ xs) zero h = (x, refl)
at_index (x ∷ xs) (suc k) h = at_index xs k (omega (arith, h))

-- .. of one that grew by one element, and by several
pub get_pushed : {X : Type 0} (xs : List X) (y : X) (k : ℕ) (x : X) → slice_get (xs ++ y ∷ []) k ≡ Some x → (slice_get xs k ≡ Some x)
    ⊎ ((k ≡ length xs) × (y ≡ x))
get_pushed [] y zero x e = inr (refl, cc)
get_pushed [] y (suc k) x e = absurd (cc e)
get_pushed (z ∷ xs) y zero x e = inl e
get_pushed (z ∷ xs) y (suc k) x e = elim (get_pushed xs y k x e) [ inl there ↦ inl there | inr last ↦ inr (ap suc last.0, last.1) ]

pub get_before : {X : Type 0} (xs ys : List X) (k : ℕ) (x : X) → slice_get xs k ≡ Some x → slice_get (xs ++ ys) k ≡ Some x
get_before [] ys k x e = absurd (cc e)
get_before (z ∷ xs) ys zero x e = e
get_before (z ∷ xs) ys (suc k) x e = get_before xs ys k x e

-- .. of one behind another
pub get_behind : {X : Type 0} (xs ys : List X) (k : ℕ) → slice_get (xs ++ ys) (length xs + k) ≡ slice_get ys k
get_behind [] ys k = let e : 0 + k ≡ k = omega arith in ap (slice_get ys) e
get_behind (x ∷ xs) ys k = let e : suc (length xs) + k ≡ suc (length xs + k) = omega arith in ap (slice_get (x ∷ xs ++ ys)) e ∙ get_behind xs ys k

-- .. that was set
pub get_set_same : {X : Type 0} (xs : List X) (k : ℕ) (x : X) → k < length xs → slice_get (set xs k x) k ≡ Some x
get_set_same xs k x h = slice_get-get_or (set xs k x) k x (omega (arith, length-set xs k x, h)) ∙ ap Some (get_or-set_same xs k x x h)

-- the element that was read stands in front of the rest
pub next_of : {X : Type 0} (xs : List X) (k : ℕ) (x : X) → k < length xs → x ≡ get_or xs k x → drop k xs ≡ x ∷ drop (k + 1) xs
next_of xs k x h is = rw add-one (drop-cons xs k x h ∙ ap (λ y. y ∷ drop (suc k) xs) (sym is))
