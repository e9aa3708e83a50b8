-- Numbers in texts that are written.
use Rattle.std.specs.Prelude.{ℕ, List, [], ◌∷◌, ◌++◌, codes, decimal}

-- a label, and a number right after it
unfoldable pub labelled : List ℕ → ℕ → List ℕ
labelled label n = label ++ decimal n

-- each number behind a space
abbrev pub spaced : List ℕ → List ℕ
spaced [] = []
spaced (n ∷ more) = labelled (codes " ") n ++ spaced more
