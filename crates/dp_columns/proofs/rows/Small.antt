-- Small columns, computed: four sites, of which values, elements, blocks and nothing are kept.
use Rattle.std.proofs.Common.{◌≡◌, refl, ℕ, List, [], ◌∷◌, pos, Some, None}
use Rattle.dp_tree.specs.Eval.{Load}
use Rattle.dp_tree.specs.Step.{Stored}
use Rattle.dp_lean.specs.Queues.{Told, Did, DidBlock}
use Rattle.dp_columns.specs.declared.ColumnKind.{ColumnKind}
use Rattle.dp_columns.specs.declared.ColumnKind.TheVariants.{Nothing, Value, Element, Block}
use Rattle.dp_columns.specs.declared.column.Column.{Column}
use Rattle.dp_columns.specs.Paired.{pairs_of, split_by}
use Rattle.dp_columns.specs.Held.{told_of, begun_stores}
use Rattle.dp_columns.specs.Columned.{Columned, nothing_kept, with_told, with_block_store, block_ended, with_load, loads_ended, value_cell}
use Rattle.dp_columns.specs.Left.{Left, TookTold, TookLoads}

abbrev kinds : List ColumnKind
kinds = Value 7 ∷ Element ∷ Block ∷ Nothing ∷ []

abbrev load : ℕ → ℕ → Load
load cell value = record { cell = cell; value = pos value }

-- a value, an element, and two stores of a block, of which the second is put behind an element
abbrev begun : Columned
begun =
    with_block_store 2 (Stored 9 (pos 6))
    (with_told 1 (Did 4 (pos 2)) (with_block_store 2 (Stored 3 (pos 1)) (with_told 0 (Did 7 (pos 5)) (nothing_kept kinds))))

-- a block that isn't ended is in no queue
unfinished : begun.told ≡ (Did 7 (pos 5) ∷ []) ∷ (Did 4 (pos 2) ∷ []) ∷ [] ∷ [] ∷ []
unfinished = refl

put_so_far : begun.stores ≡ [] ∷ [] ∷ (Stored 3 (pos 1) ∷ Stored 9 (pos 6) ∷ []) ∷ [] ∷ []
put_so_far = refl

-- .. ended, and the next one has its own stores alone
abbrev ended : Columned
ended = block_ended 2 (with_block_store 2 (Stored 3 (pos 8)) (block_ended 2 begun))

blocks : ended.told
    ≡ (Did 7 (pos 5) ∷ []) ∷ (Did 4 (pos 2) ∷ []) ∷ (DidBlock (Stored 3 (pos 1) ∷ Stored 9 (pos 6) ∷ []) ∷ DidBlock (Stored 3 (pos 8) ∷ []) ∷ []) ∷ [] ∷ []
blocks = refl

none_unfinished : ended.stores ≡ [] ∷ [] ∷ [] ∷ [] ∷ []
none_unfinished = refl

-- loads of two events, the second without any
abbrev loaded : Columned
loaded = loads_ended 1 (loads_ended 1 (with_load 1 (load 3 2) (with_load 1 (load 9 1) (nothing_kept kinds))))

loads : loaded.loads ≡ [] ∷ ((load 9 1 ∷ load 3 2 ∷ []) ∷ [] ∷ []) ∷ [] ∷ [] ∷ []
loads = refl

-- past the last place nothing changes
past : with_told 4 (Did 7 (pos 5)) begun ≡ begun
past = refl

-- the cell of a site's values
cell : value_cell (Some (Value 7)) ≡ 7
cell = refl

-- parts of two, none and one
split : split_by (2 ∷ 0 ∷ 1 ∷ []) (pairs_of (5 ∷ 6 ∷ 7 ∷ 8 ∷ []) (pos 1 ∷ pos 2 ∷ pos 3 ∷ pos 4 ∷ [])) ≡ (load 5 1 ∷ load 6 2 ∷ []) ∷ [] ∷ (load 7 3 ∷ []) ∷ []
split = refl

-- a column of each kind, with the same in its rows
abbrev column : ColumnKind → Column
column kind = record {
  kind = kind;
  values = pos 5 ∷ [];
  elements = load 4 2 ∷ [];
  blocks = record { ended = (load 3 1 ∷ []) ∷ []; unfinished = load 9 6 ∷ [] };
}

of_value : told_of (column (Value 7)) ≡ Did 7 (pos 5) ∷ []
of_value = refl

of_element : told_of (column Element) ≡ Did 4 (pos 2) ∷ []
of_element = refl

of_block : told_of (column Block) ≡ DidBlock (Stored 3 (pos 1) ∷ []) ∷ []
of_block = refl

of_nothing : told_of (column Nothing) ≡ []
of_nothing = refl

ahead : begun_stores (column Block) ≡ Stored 9 (pos 6) ∷ []
ahead = refl

-- the front of a queue is taken, once
abbrev left : List (List Told) → List (List (List Load)) → Left
left told loads = record { kinds = kinds; told = told; loads = loads }

took : TookTold (left (ended.told) []) 2 (Some (DidBlock (Stored 3 (pos 1) ∷ Stored 9 (pos 6) ∷ [])))
    (left ((Did 7 (pos 5) ∷ []) ∷ (Did 4 (pos 2) ∷ []) ∷ (DidBlock (Stored 3 (pos 8) ∷ []) ∷ []) ∷ [] ∷ []) [])
took = (DidBlock (Stored 3 (pos 8) ∷ []) ∷ [], refl, refl)

empty : TookTold (left (ended.told) []) 3 None (left (ended.told) [])
empty = (refl, refl)

took_loads : TookLoads (left [] loaded.loads) 1 (Some (load 9 1 ∷ load 3 2 ∷ [])) (left [] ([] ∷ ([] ∷ []) ∷ [] ∷ [] ∷ []))
took_loads = ([] ∷ [], refl, refl)
