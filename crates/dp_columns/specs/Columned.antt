-- Columns as their callers see them: what each place told, and what isn't ended yet.
use Rattle.std.specs.Prelude.{◌≡◌, ℕ, List, [], ◌∷◌, ◌++◌, map, Option, Some, get_or, slice_set}
use Rattle.dp_tree.specs.Step.{Effect}
use Rattle.dp_tree.specs.Eval.{Load}
use Rattle.dp_lean.specs.Queues.{Told, DidBlock}
use Rattle.dp_columns.specs.declared.ColumnKind.{ColumnKind}
use Rattle.dp_columns.specs.declared.ColumnKind.TheVariants.{Value, Element, Block}

-- for each place its kind, its queue, the stores of a block that isn't ended, the queue of its loads, and the loads of an event that isn't ended
pub record Columned : Type 0 where
  pub kinds : List ColumnKind
  pub told : List (List Told)
  pub stores : List (List Effect)
  pub loads : List (List (List Load))
  pub loading : List (List Load)

-- .. where nothing is
abbrev pub nothing_kept : List ColumnKind → Columned
nothing_kept kinds = record {
  kinds = kinds;
  told = map (λ _. []) kinds;
  stores = map (λ _. []) kinds;
  loads = map (λ _. []) kinds;
  loading = map (λ _. []) kinds;
}

-- one thing more at the end of a place's list
abbrev pub added_at : {X : Type 0} → ℕ → X → List (List X) → List (List X)
added_at place x lists = slice_set lists place (get_or lists place [] ++ x ∷ [])

-- the place told one thing more
abbrev pub with_told : ℕ → Told → Columned → Columned
with_told place told k = record { kinds = k.kinds; told = added_at place told k.told; stores = k.stores; loads = k.loads; loading = k.loading }

-- its block stores one thing more
abbrev pub with_block_store : ℕ → Effect → Columned → Columned
with_block_store place store k = record { kinds = k.kinds; told = k.told; stores = added_at place store k.stores; loads = k.loads; loading = k.loading }

-- .. these things more
abbrev pub with_block_stores : ℕ → List Effect → Columned → Columned
with_block_stores place [] k = k
with_block_stores place (s ∷ rest) k = with_block_stores place rest (with_block_store place s k)

-- its block is ended
abbrev pub block_ended : ℕ → Columned → Columned
block_ended place k = record {
  kinds = k.kinds;
  told = added_at place (DidBlock (get_or k.stores place [])) k.told;
  stores = slice_set k.stores place [];
  loads = k.loads;
  loading = k.loading;
}

-- its event loads one thing more
abbrev pub with_load : ℕ → Load → Columned → Columned
with_load place load k = record { kinds = k.kinds; told = k.told; stores = k.stores; loads = k.loads; loading = added_at place load k.loading }

-- .. these things more
abbrev pub with_loads : ℕ → List Load → Columned → Columned
with_loads place [] k = k
with_loads place (l ∷ rest) k = with_loads place rest (with_load place l k)

-- all loads of its event were put
abbrev pub loads_ended : ℕ → Columned → Columned
loads_ended place k = record {
  kinds = k.kinds;
  told = k.told;
  stores = k.stores;
  loads = added_at place (get_or k.loading place []) k.loads;
  loading = slice_set k.loading place [];
}

-- What was told stays as it is, whatever waits for the end of its event.
pub record ToldStays (old new : Columned) : Type 0 where
  pub kinds : new.kinds ≡ old.kinds
  pub told : new.told ≡ old.told
  pub loads : new.loads ≡ old.loads

-- values alone are kept, cells and values, or blocks
abbrev pub KeepsValues : Option ColumnKind → Type 0
KeepsValues (Some (Value cell)) = Unit {0}
KeepsValues _ = ⊥

abbrev pub KeepsElements : Option ColumnKind → Type 0
KeepsElements (Some Element) = Unit {0}
KeepsElements _ = ⊥

abbrev pub KeepsBlocks : Option ColumnKind → Type 0
KeepsBlocks (Some Block) = Unit {0}
KeepsBlocks _ = ⊥

-- the cell of each value
abbrev pub value_cell : Option ColumnKind → ℕ
value_cell (Some (Value cell)) = cell
value_cell _ = 0
