-- What is so of each element of a list, and of numbers that ascend.
use Rattle.std.specs.Prelude.{ℕ, ◌^◌, ◌<◌, List, [], ◌∷◌}

-- each of them is so
abbrev pub Each : {A : Type 0} → (A → Type 0) → List A → Type 0
Each P [] = Unit {0}
Each P (x ∷ rest) = P x × Each P rest

-- the sites ascend strictly, from above `low`, and each has 32 bits
abbrev pub AscendAbove : ℕ → List ℕ → Type 0
AscendAbove low [] = Unit {0}
AscendAbove low (site ∷ rest) = (low < site) × (site < 2 ^ 32) × AscendAbove site rest
