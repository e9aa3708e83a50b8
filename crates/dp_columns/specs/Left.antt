-- What is left to read of columns.
use Rattle.std.specs.Prelude.{◌≡◌, ℕ, List, [], ◌∷◌, Option, Some, None, slice_get, slice_set}
use Rattle.dp_tree.specs.Eval.{Load}
use Rattle.dp_lean.specs.Queues.{Told}
use Rattle.dp_columns.specs.declared.ColumnKind.{ColumnKind}

-- for each place its kind, and what is left of its queue and of the queue of its loads
pub record Left : Type 0 where
  pub kinds : List ColumnKind
  pub told : List (List Told)
  pub loads : List (List (List Load))

-- the front of the place's queue was taken, or the queue is empty
abbrev pub TookTold : Left → ℕ → Option Told → Left → Type 0
TookTold old place (Some told) new =
    (rest : List Told) × (slice_get old.told place ≡ Some (told ∷ rest))
    × (new ≡ record { kinds = old.kinds; told = slice_set old.told place rest; loads = old.loads })
TookTold old place None new = (slice_get old.told place ≡ Some []) × (new ≡ old)

-- .. of its loads
abbrev pub TookLoads : Left → ℕ → Option (List Load) → Left → Type 0
TookLoads old place (Some loads) new =
    (rest : List (List Load)) × (slice_get old.loads place ≡ Some (loads ∷ rest))
    × (new ≡ record { kinds = old.kinds; told = old.told; loads = slice_set old.loads place rest })
TookLoads old place None new = (slice_get old.loads place ≡ Some []) × (new ≡ old)
