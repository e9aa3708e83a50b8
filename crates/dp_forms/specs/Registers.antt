-- Some cells of the memory are held in registers.
use Rattle.std.specs.Prelude.{◌≡◌, ◌<◌, ℕ, ◌+◌, ◌-◌, ◌==◌, if◌then◌else◌, Bool, true, false, List, [], ◌∷◌, ℤ, pos, get_or, slice_set, nat_lt}
use Rattle.dp_tree.specs.Eval.{place, just}
use Rattle.dp_native.specs.Element.{index_of}

-- the memory, where each register's home cell holds the register's value
unfoldable pub merged : List ℕ → List ℤ → List ℤ → List ℤ
merged [] values cells = cells
merged (home ∷ homes) [] cells = cells
merged (home ∷ homes) (value ∷ values) cells = slice_set (merged homes values cells) home value

-- the cell is the home of this register, and of none before it
abbrev pub is_register_home : List ℕ → ℕ → ℕ → Bool
is_register_home [] register cell = false
is_register_home (home ∷ homes) register cell =
    if home == cell then register == 0 else (if register == 0 then false else is_register_home homes (register - 1) cell)

-- no register's home is among so many cells from the first one on
abbrev pub homes_apart : List ℕ → ℕ → ℕ → Bool
homes_apart [] first count = true
homes_apart (home ∷ homes) first count =
    if nat_lt home first then homes_apart homes first count else (if nat_lt home (first + count) then false else homes_apart homes first count)

-- the array that has so many cells from the first one on holds this value at an index
pub record IsCell (cells : List ℤ) (first count : ℕ) (index value : ℤ) : Type 0 where
  pub placed : place index count ≡ just (index_of index)
  pub below : index_of index < count
  pub is : get_or cells (first + index_of index) (pos 0) ≡ value

-- the value was put there
pub record IsPut (cells : List ℤ) (first count : ℕ) (index value : ℤ) (cells' : List ℤ) : Type 0 where
  pub placed : place index count ≡ just (index_of index)
  pub below : index_of index < count
  pub is : cells' ≡ slice_set cells (first + index_of index) value
