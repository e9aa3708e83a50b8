-- Some of a memory's cells, each once.
use Rattle.std.specs.Prelude.{ℕ, if◌then◌else◌, Bool, false, not, ◌&&◌, List, [], ◌∷◌, ◌++◌, nat_lt, slice_set}
use Rattle.dp_plan.specs.Written.{has}
use Rattle.dp_meaning.specs.declared.sight.Effect.{Effect}
use Rattle.dp_meaning.specs.declared.sight.Effect.TheVariants as effect

-- some of the first so many cells, in the order in which they were marked
pub record Marked : Type 0 where
  pub size : ℕ
  pub cells : List ℕ

-- one cell more, if there is one of that number and it isn't marked yet
abbrev pub with_mark : ℕ → Marked → Marked
with_mark c m = record { size = m.size; cells = if nat_lt c m.size && not (has c m.cells) then m.cells ++ c ∷ [] else m.cells }

-- the cell that an effect stores into, if it stores
abbrev pub with_effect : Effect → Marked → Marked
with_effect (effect.Stored cell value) m = with_mark cell m
with_effect (effect.Printed value) m = m
with_effect (effect.Decided value) m = m
with_effect (effect.Tried value) m = m

-- no cell
abbrev pub none_marked : ℕ → Marked
none_marked size = record { size = size; cells = [] }

-- the flags of these cells aren't set
abbrev pub unset : List ℕ → List Bool → List Bool
unset [] flags = flags
unset (c ∷ rest) flags = unset rest (slice_set flags c false)
