-- What a column holds.
use Rattle.std.specs.Prelude.{◌≡◌, ◌<◌, ℕ, List, [], map, Some, slice_get}
use Rattle.std.specs.List.{All}
use Rattle.dp_tree.specs.Step.{Effect}
use Rattle.dp_lean.specs.Queues.{Told, Did}
use Rattle.dp_columns.specs.Paired.{Grouped, did, as_store, block_told}
use Rattle.dp_columns.specs.declared.ColumnKind.{ColumnKind}
use Rattle.dp_columns.specs.declared.ColumnKind.TheVariants.{Nothing, Value, Element, Block}
use Rattle.dp_columns.specs.declared.column.Column.{Column}

-- what is told, by the kind
abbrev pub told_by : ColumnKind → Column → List Told
told_by Nothing c = []
told_by (Value cell) c = map (Did cell) c.values
told_by Element c = map did c.elements
told_by Block c = map block_told c.blocks.ended

abbrev pub told_of : Column → List Told
told_of c = told_by c.kind c

-- the stores of a block that isn't ended
abbrev pub begun_stores : Column → List Effect
begun_stores c = map as_store c.blocks.unfinished

-- no event, and nothing that isn't ended
abbrev pub no_events : Grouped
no_events = record { ended = []; unfinished = [] }

-- nothing was put
pub record IsEmpty (c : Column) : Type 0 where
  pub values : c.values ≡ []
  pub elements : c.elements ≡ []
  pub blocks : c.blocks ≡ no_events

-- no events
abbrev pub IsNone : Grouped → Type 0
IsNone events = events ≡ no_events

-- this is so of the first ones, up to a place
abbrev pub FrontIs : {X : Type 0} → (X → Type 0) → ℕ → List X → Type 0
FrontIs {X} P n xs = (k : ℕ) (x : X) → k < n → slice_get xs k ≡ Some x → P x

-- an empty column for each of these kinds
abbrev pub AreEmpty : List ColumnKind → List Column → Type 0
AreEmpty kinds columns = (map (λ (c : Column). c.kind) columns ≡ kinds) × All IsEmpty columns
