-- What a line adds to the names of a list.
use Rattle.std.specs.Prelude.{ℕ, ◌==◌, Bool, not, ◌&&◌, if◌then◌else◌, nat_le, nat_lt, List, [], ◌∷◌, ◌++◌, length, Option, Some, None}
use Rattle.std.specs.Str.{is_utf8}

-- a line without its LF is a name: 1 to 255 bytes in UTF-8
abbrev pub is_name : List ℕ → Bool
is_name line = not (length line == 0) && nat_le (length line) 255 && is_utf8 line

-- the names with that of a line more, where it is one and there are fewer than 64
abbrev pub with_name : List (List ℕ) → List ℕ → Option (List (List ℕ))
with_name names line = if nat_lt (length names) 64 && is_name line then Some (names ++ line ∷ []) else None

-- there is a name
abbrev pub has_name : List (List ℕ) → Bool
has_name names = not (length names == 0)
