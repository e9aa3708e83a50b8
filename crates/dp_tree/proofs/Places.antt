-- Places in a list, counted from another number.
use Rattle.std.proofs.Common.{◌≡◌, refl, sym, ap, ◌∙◌, ℕ, suc, Bool, true, false, if◌then◌else◌, List, [], ◌∷◌, map, Option, Some, None, slice_get}
use Rattle.std.specs.Option.{option_map}
use Rattle.std.proofs.lemmas.Option.{slice_get-map}
use Rattle.dp_tree.specs.Iteration.{places}

module _ {X : Type 0} (test : X → Bool) where
  up_by : (k : ℕ) (xs : List X) (rest : places test (suc (suc k)) xs ≡ map (λ (n : ℕ). suc n) (places test (suc k) xs)) (b : Bool) →
      (if b then suc k ∷ places test (suc (suc k)) xs else places test (suc (suc k)) xs) ≡ map (λ (n : ℕ). suc n) (if b then k ∷ places test (suc k) xs
      else places test (suc k) xs)
  up_by k xs rest true = ap (λ (ns : List ℕ). suc k ∷ ns) rest
  up_by k xs rest false = rest

  -- counted from one more, each place is one more
  pub places_up : (k : ℕ) (xs : List X) → places test (suc k) xs ≡ map (λ (n : ℕ). suc n) (places test k xs)
  places_up k [] = refl
  places_up k (x ∷ xs) = up_by k xs (places_up (suc k) xs) (test x)

  lowered : (o : Option ℕ) (k : ℕ) → option_map (λ (n : ℕ). suc n) o ≡ Some k → (j : ℕ) × (o ≡ Some j) × (k ≡ suc j)
  lowered None k e = absurd (cc)
  lowered (Some j) k e = let same : k ≡ suc j = cc in (j, refl, same)

  lowered_none : (o : Option ℕ) → option_map (λ (n : ℕ). suc n) o ≡ None → o ≡ None
  lowered_none None e = refl
  lowered_none (Some j) e = absurd (cc)

  pub place_down : (k : ℕ) (xs : List X) (i n : ℕ) → slice_get (places test (suc k) xs) i ≡ Some n → (j : ℕ)
      × (slice_get (places test k xs) i ≡ Some j) × (n ≡ suc j)
  place_down k xs i n e = lowered (slice_get (places test k xs) i) n (sym (ap (λ (ns : List ℕ). slice_get ns i) (places_up k xs)
      ∙ slice_get-map (λ (n : ℕ). suc n) (places test k xs) i) ∙ e)

  pub no_place_down : (k : ℕ) (xs : List X) (i : ℕ) → slice_get (places test (suc k) xs) i ≡ None → slice_get (places test k xs) i ≡ None
  no_place_down k xs i e = lowered_none (slice_get (places test k xs) i) (sym (ap (λ (ns : List ℕ). slice_get ns i) (places_up k xs)
      ∙ slice_get-map (λ (n : ℕ). suc n) (places test k xs) i) ∙ e)

pub empty_list : {X : Type 0} (xs : List X) → slice_get xs 0 ≡ None → xs ≡ []
empty_list [] e = refl
empty_list (x ∷ xs) e = absurd (cc)
