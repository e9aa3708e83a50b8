-- What is so of each element of a list.
use Rattle.std.specs.Prelude.{List, [], ◌∷◌}

-- each of them is so
abbrev pub Each : {A : Type 0} → (A → Type 0) → List A → Type 0
Each P [] = Unit {0}
Each P (x ∷ rest) = P x × Each P rest
