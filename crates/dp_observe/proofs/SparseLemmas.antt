-- Items of a list that goes on for ever.
use Rattle.std.proofs.Common.{◌≡◌, refl, ℕ, zero, suc, List, [], ◌∷◌, get_or, None, slice_get}

pub nothing_there : {X : Type 0} (xs : List X) (k : ℕ) (d : X) → slice_get xs k ≡ None → get_or xs k d ≡ d
nothing_there [] k d e = refl
nothing_there (x ∷ xs) zero d e = absurd (cc e)
nothing_there (x ∷ xs) (suc k) d e = nothing_there xs k d e
