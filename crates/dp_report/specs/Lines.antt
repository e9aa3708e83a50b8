-- Lines of a text.
use Rattle.std.specs.Prelude.{ℕ, ◌+◌, ℤ, List, [], ◌∷◌, ◌++◌, codes}
use Rattle.std.specs.Fmt.{signed_decimal}

-- a line ends with LF
abbrev pub line : List ℕ → List ℕ
line words = words ++ codes "\n"

-- a label, and a number right after it that may have a sign
unfoldable pub labelled_signed : List ℕ → ℤ → List ℕ
labelled_signed label z = label ++ signed_decimal z

-- each number behind a space, where numbers may have a sign
abbrev pub spaced_signed : List ℤ → List ℕ
spaced_signed [] = []
spaced_signed (z ∷ more) = codes " " ++ signed_decimal z ++ spaced_signed more

-- the lines of a list's elements, which are numbered from n on
abbrev pub numbered : {A : Type 0} → (ℕ → A → List ℕ) → ℕ → List A → List ℕ
numbered f n [] = []
numbered f n (x ∷ xs) = f n x ++ numbered f (n + 1) xs
