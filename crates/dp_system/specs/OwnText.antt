-- A text beside those of a shelf.
use Rattle.std.specs.Prelude.{ℕ, if◌then◌else◌, List, Option, Some}
use Rattle.dp_edge.specs.MemShelf.{is_same}

-- the text under its own name, and under every other what the shelf has
abbrev pub beside : List ℕ → List ℕ → (List ℕ → Option (List ℕ)) → List ℕ → Option (List ℕ)
beside name text held other = if is_same other name then Some text else held other
