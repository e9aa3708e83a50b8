-- Entries of lists: where they stand, and how often.
use Rattle.std.specs.Prelude.{ℕ, ◌≡◌, ◌<◌, ◌+◌, ◌==◌, List, [], ◌∷◌, Some, slice_get}
use Rattle.dp_room.specs.OneIf.{one_if}

-- the entry at this place of the list
abbrev pub At : {X : Type 0} → List X → ℕ → X → Type 0
At {X} xs i x = slice_get xs i ≡ Some x

-- the list has this entry
abbrev pub Has : {X : Type 0} → List X → X → Type 0
Has {X} xs x = (i : ℕ) × At xs i x

-- each is above those before it
abbrev pub Rises : List ℕ → Type 0
Rises xs = (i j a b : ℕ) → i < j → At xs i a → At xs j b → a < b

-- how often this number stands in the list
abbrev pub times : List ℕ → ℕ → ℕ
times [] x = 0
times (y ∷ ys) x = one_if (y == x) + times ys x
