-- Rows of cells and of values side by side, and their parts, one for each event.
use Rattle.std.specs.Prelude.{ℕ, List, [], ◌∷◌, ◌++◌, map, take, drop, ℤ}
use Rattle.std.specs.List.{zip}
use Rattle.dp_tree.specs.Eval.{Load}
use Rattle.dp_tree.specs.Step.{Effect, Stored}
use Rattle.dp_lean.specs.Queues.{Told, Did, DidBlock}
use Rattle.dp_columns.specs.declared.Pair.{Pair}

-- a cell and the value beside it, as a load
abbrev pub load_of : ℕ × ℤ → Load
load_of pair = record { cell = pair.0; value = pair.1 }

-- .. for each place of the two rows
abbrev pub pairs_of : List ℕ → List ℤ → List Load
pairs_of cells values = map load_of (zip cells values)

-- .. as what an element's site did, and as a store
abbrev pub did : Load → Told
did l = Did l.cell l.value

abbrev pub as_store : Load → Effect
as_store l = Stored l.cell l.value

-- a cell with its value, as a load and as a store
abbrev pub pair_load : Pair → Load
pair_load p = record { cell = p.cell; value = p.value }

abbrev pub pair_store : Pair → Effect
pair_store p = Stored p.cell p.value

-- what a block with these stores tells
abbrev pub block_told : List Load → Told
block_told stores = DidBlock (map as_store stores)

-- parts of these lengths, one behind the other
abbrev pub split_by : {X : Type 0} → List ℕ → List X → List (List X)
split_by [] xs = []
split_by (n ∷ ns) xs = take n xs ∷ split_by ns (drop n xs)

-- what belongs to each event, and what belongs to one that isn't ended
pub record Grouped : Type 0 where
  pub ended : List (List Load)
  pub unfinished : List Load

-- .. where the event that isn't ended has these pairs more
abbrev pub with_pairs : List Load → Grouped → Grouped
with_pairs ls g = record { ended = g.ended; unfinished = g.unfinished ++ ls }

-- .. and where it is ended
abbrev pub event_ended : Grouped → Grouped
event_ended g = record { ended = g.ended ++ g.unfinished ∷ []; unfinished = [] }
