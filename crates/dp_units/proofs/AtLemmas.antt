-- Entries of lists.
use Rattle.std.proofs.Common.{◌≡◌, ◌≢◌, ◌⊎◌, inl, inr, refl, sym, subst, ◌∙◌, ap, arith, ℕ, zero, suc, ◌<◌, ◌≤◌, ◌+◌, List, [], ◌∷◌, ◌++◌, length, take, map}
use Rattle.std.proofs.Common.{Some, slice_get}
use Rattle.std.proofs.Math.ListN.{set, length-set}
use Rattle.std.proofs.lemmas.Bool.{cases_lt, cases_eq}
use Rattle.std.proofs.lemmas.List.{get_or-set_other}
use Rattle.std.proofs.lemmas.Option.{same_Some, slice_get-map, slice_get-get_or, slice_get_past}
use Rattle.dp_units.specs.steps.Entries.{At, Has}
pub use Rattle.std.proofs.lemmas.Option.{slice_get_within as at_within}
use Rattle.std.specs.Option.{option_map}
use Rattle.dp_room.proofs.ListLemmas.{get_set_same}

pub some_at : {X : Type 0} (xs : List X) (i : ℕ) → i < length xs → (x : X) × At xs i x
some_at [] i h = absurd (omega (arith, h))
some_at (x ∷ xs) zero h = (x, refl)
some_at (x ∷ xs) (suc i) h = some_at xs i (omega (arith, h))

pub at_none : {X : Type 0} (i : ℕ) (x : X) → At [] i x → ⊥
at_none i x e = cc e

pub at_one : {X : Type 0} (xs : List X) (i : ℕ) (x y : X) → At xs i x → At xs i y → x ≡ y
at_one xs i x y e f = same_Some x y (sym e ∙ f)

pub at_kept : {X : Type 0} (xs ys : List X) (i : ℕ) (x : X) → At xs i x → At (xs ++ ys) i x
at_kept [] ys i x e = absurd (cc e)
at_kept (y ∷ xs) ys zero x e = e
at_kept (y ∷ xs) ys (suc i) x e = at_kept xs ys i x e

pub at_added : {X : Type 0} (xs ys : List X) (i : ℕ) (x : X) → At ys i x → At (xs ++ ys) (length xs + i) x
at_added [] ys i x e = let same : i ≡ 0 + i = omega arith in subst (λ k. At ys k x) same e
at_added (y ∷ xs) ys i x e = let same : suc (length xs + i) ≡ suc (length xs) + i = omega arith in
    subst (λ k. At (y ∷ (xs ++ ys)) k x) same (at_added xs ys i x e)

pub at_append : {X : Type 0} (xs ys : List X) (i : ℕ) (x : X) → At (xs ++ ys) i x → (At xs i x) ⊎ ((k : ℕ) × (i ≡ length xs + k) × At ys k x)
at_append [] ys i x e = inr (i, (let same : i ≡ 0 + i = omega arith in same), e)
at_append (y ∷ xs) ys zero x e = inl e
at_append (y ∷ xs) ys (suc i) x e = elim (at_append xs ys i x e) [
  | inl old ↦ inl old
  | inr (k, same, there) ↦ inr (k, (let on : suc i ≡ suc (length xs) + k = omega (arith, same) in on), there)
]

pub at_push : {X : Type 0} (xs : List X) (y : X) (i : ℕ) (x : X) → At (xs ++ y ∷ []) i x → (At xs i x) ⊎ ((i ≡ length xs) × (x ≡ y))
at_push [] y zero x e = inr (refl, sym (same_Some y x e))
at_push [] y (suc i) x e = absurd (cc e)
at_push (z ∷ xs) y zero x e = inl e
at_push (z ∷ xs) y (suc i) x e = elim (at_push xs y i x e) [ inl old ↦ inl old | inr new ↦ inr (ap suc new.0, new.1) ]

pub at_last : {X : Type 0} (xs : List X) (y : X) → At (xs ++ y ∷ []) (length xs) y
at_last [] y = refl
at_last (x ∷ xs) y = at_last xs y

pub at_take : {X : Type 0} (n : ℕ) (xs : List X) (i : ℕ) (x : X) → At (take n xs) i x → (i < n) × At xs i x
at_take zero xs i x e = absurd (at_none i x e)
at_take (suc n) [] i x e = absurd (at_none i x e)
at_take (suc n) (y ∷ xs) zero x e = (omega arith, e)
at_take (suc n) (y ∷ xs) (suc i) x e = let rest = at_take n xs i x e in (omega (arith, rest.0), rest.1)

pub at_front : {X : Type 0} (n : ℕ) (xs : List X) (i : ℕ) (x : X) → i < n → At xs i x → At (take n xs) i x
at_front zero xs i x h e = absurd (omega (arith, h))
at_front (suc n) [] i x h e = e
at_front (suc n) (y ∷ xs) zero x h e = e
at_front (suc n) (y ∷ xs) (suc i) x h e = at_front n xs i x (omega (arith, h)) e

pub at_map : {X Y : Type 0} (f : X → Y) (xs : List X) (i : ℕ) (y : Y) → At (map f xs) i y → (x : X) × At xs i x × (y ≡ f x)
at_map f [] i y e = absurd (at_none i y e)
at_map f (x ∷ xs) zero y e = (x, refl, sym (same_Some (f x) y e))
at_map f (x ∷ xs) (suc i) y e = at_map f xs i y e

pub at_mapped : {X Y : Type 0} (f : X → Y) (xs : List X) (i : ℕ) (x : X) → At xs i x → At (map f xs) i (f x)
at_mapped f xs i x e = slice_get-map f xs i ∙ ap (option_map f) e

pub has_kept : {X : Type 0} (xs ys : List X) (x : X) → Has xs x → Has (xs ++ ys) x
has_kept xs ys x (i, e) = (i, at_kept xs ys i x e)

pub has_added : {X : Type 0} (xs ys : List X) (x : X) → Has ys x → Has (xs ++ ys) x
has_added xs ys x (i, e) = (length xs + i, at_added xs ys i x e)

pub has_append : {X : Type 0} (xs ys : List X) (x : X) → Has (xs ++ ys) x → Has xs x ⊎ Has ys x
has_append xs ys x (i, e) = elim (at_append xs ys i x e) [ inl old ↦ inl (i, old) | inr new ↦ inr (new.0, new.2) ]

pub has_push : {X : Type 0} (xs : List X) (y x : X) → Has (xs ++ y ∷ []) x → Has xs x ⊎ (x ≡ y)
has_push xs y x (i, e) = elim (at_push xs y i x e) [ inl old ↦ inl (i, old) | inr new ↦ inr new.1 ]

pub get_set_other : {X : Type 0} (xs : List X) (i j : ℕ) (y : X) → j ≢ i → slice_get (set xs i y) j ≡ slice_get xs j
get_set_other xs i j y ne = elim (cases_lt j (length xs)) [
  | inl within ↦
      let long : j < length (set xs i y) = omega (arith, length-set xs i y) in
      slice_get-get_or (set xs i y) j y long ∙ ap Some (get_or-set_other xs i j y y ne) ∙ sym (slice_get-get_or xs j y within)
  | inr past ↦
      let far : length (set xs i y) ≤ j = omega (arith, length-set xs i y) in
      slice_get_past (set xs i y) j far ∙ sym (slice_get_past xs j past)
]

-- an entry after one was written
pub at_set : {X : Type 0} (xs : List X) (i : ℕ) (y : X) (j : ℕ) (x : X) → i < length xs → At (set xs i y) j x → ((j ≡ i) × (x ≡ y)) ⊎ ((j ≢ i) × At xs j x)
at_set xs i y j x h e = elim (cases_eq j i) [
  | inl same ↦ inl (same, same_Some x y (sym e ∙ ap (λ k. slice_get (set xs i y) k) same ∙ get_set_same xs i y h))
  | inr other ↦ inr (other, sym (get_set_other xs i j y other) ∙ e)
]

pub at_unset : {X : Type 0} (xs : List X) (i : ℕ) (y : X) (j : ℕ) (x : X) → j ≢ i → At xs j x → At (set xs i y) j x
at_unset xs i y j x ne e = get_set_other xs i j y ne ∙ e
