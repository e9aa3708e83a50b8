-- What stands at a place of a list, and of the lists made of it.
use Rattle.std.proofs.Common.{◌≡◌, refl, sym, ap, subst, ◌∙◌, ℕ, zero, suc, ◌+◌, ◌<◌, ◌≤◌, List, [], ◌∷◌, ◌++◌, length, map, set, get_or, drop, replicate}
use Rattle.std.proofs.Common.{slice_get, Some, All, arith, option_map}
use Rattle.std.specs.List.{zip}
use Rattle.std.proofs.lemmas.List.{map-set}
use Rattle.std.proofs.Math.Seq.{map-set_same}
use Rattle.std.proofs.lemmas.Option.{slice_get-map, slice_get-get_or, get_or_from_slice_get, slice_get_within}
use Rattle.dp_columns.specs.Held.{FrontIs}
use Rattle.dp_columns.specs.Columned.{added_at}

pub unwrapped : {X : Type 0} {a b : X} → Some a ≡ Some b → a ≡ b
unwrapped e = cc

-- what is there, set again
pub set_again : {X : Type 0} (xs : List X) (i : ℕ) (x : X) → slice_get xs i ≡ Some x → set xs i x ≡ xs
set_again [] i x e = refl
set_again (y ∷ xs) zero x e = ap (λ z. z ∷ xs) (sym (unwrapped e))
set_again (y ∷ xs) (suc i) x e = ap (λ zs. y ∷ zs) (set_again xs i x e)

-- of two things set at a place the second stays
pub set_twice : {X : Type 0} (xs : List X) (i : ℕ) (x y : X) → set (set xs i x) i y ≡ set xs i y
set_twice [] i x y = refl
set_twice (z ∷ xs) zero x y = refl
set_twice (z ∷ xs) (suc i) x y = ap (λ zs. z ∷ zs) (set_twice xs i x y)

-- what is set stands there
pub set_there : {X : Type 0} (xs : List X) (i : ℕ) (x y : X) → slice_get xs i ≡ Some x → slice_get (set xs i y) i ≡ Some y
set_there [] i x y e = absurd (cc e)
set_there (z ∷ xs) zero x y e = refl
set_there (z ∷ xs) (suc i) x y e = set_there xs i x y e

-- the list from that place on
pub rest_at : {X : Type 0} (xs : List X) (i : ℕ) (x : X) → slice_get xs i ≡ Some x → drop i xs ≡ x ∷ drop (suc i) xs
rest_at [] i x e = absurd (cc e)
rest_at (y ∷ xs) zero x e = ap (λ z. z ∷ xs) (unwrapped e)
rest_at (y ∷ xs) (suc i) x e = rest_at xs i x e

pub rest_none : {X : Type 0} (xs : List X) (i : ℕ) → length xs ≤ i → drop i xs ≡ []
rest_none [] zero le = refl
rest_none [] (suc i) le = refl
rest_none (y ∷ xs) zero le = absurd (omega (arith, le))
rest_none (y ∷ xs) (suc i) le = rest_none xs i (omega (arith, le))

module _ {A B : Type 0} (f : A → B) where
  pub at_map : (xs : List A) (i : ℕ) (x : A) → slice_get xs i ≡ Some x → slice_get (map f xs) i ≡ Some (f x)
  at_map xs i x e = slice_get-map f xs i ∙ ap (option_map f) e

  pub same_map : (xs : List A) (i : ℕ) (x y : A) → slice_get xs i ≡ Some x → f y ≡ f x → map f (set xs i y) ≡ map f xs
  same_map xs i x y e s = map-set_same f xs i y x (s ∙ ap f (sym (get_or_from_slice_get xs i x x e)))

module _ {A X : Type 0} (f : A → List X) where
  pub list_at : (xs : List A) (i : ℕ) (x : A) → slice_get xs i ≡ Some x → get_or (map f xs) i [] ≡ f x
  list_at xs i x e = get_or_from_slice_get (map f xs) i (f x) [] (at_map f xs i x e)

  pub grown_map : (xs : List A) (i : ℕ) (x y : A) (z : X) → slice_get xs i ≡ Some x → f y ≡ f x ++ z ∷ [] → map f (set xs i y) ≡ added_at i z (map f xs)
  grown_map xs i x y z e s = map-set f xs i y ∙ ap (set (map f xs) i) (s ∙ ap (λ q. q ++ z ∷ []) (sym (list_at xs i x e)))

  pub set_map : (xs : List A) (i : ℕ) (y : A) (z : List X) → f y ≡ z → map f (set xs i y) ≡ set (map f xs) i z
  set_map xs i y z s = map-set f xs i y ∙ ap (set (map f xs) i) s

module _ {X : Type 0} (P : X → Type 0) where
  pub front_set : (n : ℕ) (xs : List X) (y : X) → P y → FrontIs P n xs → FrontIs P (n + 1) (set xs n y)
  front_set n [] y p f k x lt e = absurd (cc e)
  front_set zero (z ∷ xs) y p f zero x lt e = subst P (unwrapped e) p
  front_set zero (z ∷ xs) y p f (suc k) x lt e = absurd (omega (arith, lt))
  front_set (suc n) (z ∷ xs) y p f zero x lt e = f zero x (omega arith) e
  front_set (suc n) (z ∷ xs) y p f (suc k) x lt e = front_set n xs y p (λ j w l g. f (suc j) w (omega (arith, l)) g) k x (omega (arith, lt)) e

  pub front_past : (n : ℕ) (xs : List X) → (n < length xs → ⊥) → FrontIs P n xs → FrontIs P (n + 1) xs
  front_past n xs past f k x lt e = f k x (before past lt (slice_get_within xs k x e)) e
    where
      before : (n < length xs → ⊥) → k < n + 1 → k < length xs → k < n
      before past lt here = grind arith

  pub front_all : (n : ℕ) (xs : List X) → length xs ≤ n → FrontIs P n xs → All P xs
  front_all n xs le f k d lt = f k (get_or xs k d) (omega (arith, le, lt)) (slice_get-get_or xs k d lt)

pub all_alike : {X : Type 0} (y : X) (xs : List X) → All (λ x. x ≡ y) xs → xs ≡ replicate (length xs) y
all_alike y [] all = refl
all_alike y (x ∷ xs) all = λ k. all 0 x (omega arith) k ∷ all_alike y xs (λ i d lt. all (suc i) d (omega (arith, lt))) k

-- two lists side by side
module _ {A B : Type 0} where
  pub zip_at : (xs : List A) (bs : List B) (i : ℕ) (a : A) (b : B) → slice_get xs i ≡ Some a → slice_get bs i ≡ Some b → slice_get (zip xs bs) i ≡ Some (a, b)
  zip_at [] bs i a b e f = absurd (cc e)
  zip_at (x ∷ xs) [] i a b e f = absurd (cc f)
  zip_at (x ∷ xs) (y ∷ bs) zero a b e f = λ k. Some (unwrapped e k, unwrapped f k)
  zip_at (x ∷ xs) (y ∷ bs) (suc i) a b e f = zip_at xs bs i a b e f

  pub zip_set : (xs : List A) (bs : List B) (i : ℕ) (a : A) (b : B) → slice_get xs i ≡ Some a → zip xs (set bs i b) ≡ set (zip xs bs) i (a, b)
  zip_set [] bs i a b e = refl
  zip_set (x ∷ xs) [] i a b e = refl
  zip_set (x ∷ xs) (y ∷ bs) zero a b e = ap (λ z. (z, b) ∷ zip xs bs) (unwrapped e)
  zip_set (x ∷ xs) (y ∷ bs) (suc i) a b e = ap (λ ps. (x, y) ∷ ps) (zip_set xs bs i a b e)

  -- the same beside each
  pub zip_same : {C : Type 0} (f : A × B → C) (xs : List A) (b : B) → map f (zip xs (replicate (length xs) b)) ≡ map (λ a. f (a, b)) xs
  zip_same f [] b = refl
  zip_same f (x ∷ xs) b = ap (λ cs. f (x, b) ∷ cs) (zip_same f xs b)

  pub zip_all : (P : A × B → Type 0) (xs : List A) (b : B) → ((a : A) → P (a, b)) → All P (zip xs (replicate (length xs) b))
  zip_all P [] b p k d lt = absurd (omega (arith, lt))
  zip_all P (x ∷ xs) b p zero d lt = p x
  zip_all P (x ∷ xs) b p (suc k) d lt = zip_all P xs b p k d (omega (arith, lt))
