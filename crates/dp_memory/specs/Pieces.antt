-- A list in pieces of one size, of which the last may be shorter.
use Rattle.std.specs.Prelude.{◌≡◌, ℕ, ℤ, ◌+◌, ◌*◌, ◌-◌, ◌%◌, ◌<◌, ◌≤◌, List, [], ◌∷◌, ◌++◌, length, take, drop, replicate, slice_get, slice_set, slice_index_or}
use Rattle.std.specs.Prelude.{Some}

-- the pieces, one after the other
unfoldable pub joined : {X : Type 0} → List (List X) → List X
joined [] = []
joined (piece ∷ rest) = piece ++ joined rest

-- no piece has more items than this, and each one but the last has as many
unfoldable pub InPieces : {X : Type 0} → ℕ → List (List X) → Type 0
InPieces size [] = Unit {0}
InPieces size (piece ∷ rest) = (length piece ≤ size) × (0 < length rest → length piece ≡ size) × InPieces size rest

-- the cells with one number in so many of them, from a place on
abbrev pub filled : List ℤ → ℕ → ℕ → ℤ → List ℤ
filled cells first count value = take first cells ++ replicate count value ++ drop (first + count) cells

-- there is such a piece, and it has such a place
abbrev pub HasCell : List (List ℤ) → ℕ → ℕ → Type 0
HasCell pieces at place = (piece : List ℤ) × (slice_get pieces at ≡ Some piece) × (place < length piece)

-- the pieces with another value in this place of this piece
abbrev pub with_cell : List (List ℤ) → ℕ → ℕ → ℤ → List (List ℤ)
with_cell pieces at place value = slice_set pieces at (slice_set (slice_index_or pieces at []) place value)

-- the pages hold these cells, and none of them is empty
abbrev pub ArePagesOf : List (List ℤ) → List ℤ → Type 0
ArePagesOf pages cells = (joined pages ≡ cells) × InPieces 256 pages × (256 * length pages < length cells + 256)

-- from the first cell that is left and the numbers from there on: the next slice ends with its page or with the numbers
abbrev pub IsNextSlice : ℕ × List ℤ → List ℤ → ℕ × List ℤ → Type 0
IsNextSlice before slice after =
    (slice ≡ take (256 - before.0 % 256) before.1) × (0 < length slice)
    × (after ≡ (before.0 + length slice, drop (length slice) before.1))
