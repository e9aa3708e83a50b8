-- The program that values name, whose sites are listed or which is written as a tree.
use Rattle.std.specs.Prelude.{◌≡◌, ℕ, List, Some, codes}
use Rattle.dp_words.specs.Values.{Values}

-- the values are those of this program
abbrev pub ShowsSites : Values → List ℕ → Type 0
ShowsSites value program = value (codes "program") ≡ Some program
