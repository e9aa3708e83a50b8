-- What is put behind what waits for the end of its event.
use Rattle.std.proofs.Common.{◌≡◌, sym, ap, ◌∙◌, ℕ, List, [], ◌∷◌, ◌++◌, slice_get, slice_set, Some}
use Rattle.std.proofs.lemmas.List.{append_assoc, append-nil}
use Rattle.std.proofs.lemmas.Option.{get_or_from_slice_get}
use Rattle.dp_tree.specs.Eval.{Load}
use Rattle.dp_tree.specs.Step.{Effect}
use Rattle.dp_lean.specs.Queues.{DidBlock}
use Rattle.dp_columns.specs.Columned.{Columned, added_at, with_block_stores, block_ended, with_loads, loads_ended}
use Rattle.dp_columns.proofs.Places.{set_again, set_twice, set_there}

-- more of one list
module _ {X : Type 0} (place : ℕ) (lists : List (List X)) (before : List X) (at : slice_get lists place ≡ Some before) where
  none_more : lists ≡ slice_set lists place (before ++ [])
  none_more = sym (ap (slice_set lists place) (append-nil before) ∙ set_again lists place before at)

  one_more : (x : X) → added_at place x lists ≡ slice_set lists place (before ++ x ∷ [])
  one_more x = ap (λ q. slice_set lists place (q ++ x ∷ [])) (get_or_from_slice_get lists place before [] at)

  all_more : (x : X) (xs : List X) → slice_set (slice_set lists place (before ++ x ∷ [])) place ((before ++ x ∷ []) ++ xs) ≡ slice_set lists place
      (before ++ x ∷ xs)
  all_more x xs = set_twice lists place (before ++ x ∷ []) ((before ++ x ∷ []) ++ xs) ∙ ap (slice_set lists place) (append_assoc before (x ∷ []) xs)

module _ (place : ℕ) where
  stores_behind : (ss : List Effect) (k : Columned) (before : List Effect) → slice_get k.stores place ≡ Some before →
      with_block_stores place ss k ≡ record k { stores = slice_set k.stores place (before ++ ss) }
  stores_behind [] k before at = λ i. record k { stores = none_more place k.stores before at i }
  stores_behind (s ∷ ss) k before at =
      ap (λ qs. with_block_stores place ss (record k { stores = qs })) (one_more place k.stores before at s)
      ∙ stores_behind ss (record k { stores = slice_set k.stores place (before ++ s ∷ []) }) (before ++ s ∷ [])
      (set_there k.stores place before (before ++ s ∷ []) at)
      ∙ (λ i. record k { stores = all_more place k.stores before at s ss i })

  -- a block is told with the stores that wait and those that are put
  pub block_behind : (ss : List Effect) (k : Columned) (before : List Effect) → slice_get k.stores place ≡ Some before →
      block_ended place (with_block_stores place ss k)
      ≡ record k { told = added_at place (DidBlock (before ++ ss)) k.told; stores = slice_set k.stores place [] }
  block_behind ss k before at =
      let there = set_there k.stores place before (before ++ ss) at in
      ap (block_ended place) (stores_behind ss k before at)
      ∙ (λ i. record k {
        told = added_at place (DidBlock (get_or_from_slice_get (slice_set k.stores place (before ++ ss)) place (before ++ ss) [] there i)) k.told;
        stores = set_twice k.stores place (before ++ ss) [] i;
      })

  loads_more : (ls : List Load) (k : Columned) (before : List Load) → slice_get k.loading place ≡ Some before →
      with_loads place ls k ≡ record k { loading = slice_set k.loading place (before ++ ls) }
  loads_more [] k before at = λ i. record k { loading = none_more place k.loading before at i }
  loads_more (l ∷ ls) k before at =
      ap (λ qs. with_loads place ls (record k { loading = qs })) (one_more place k.loading before at l)
      ∙ loads_more ls (record k { loading = slice_set k.loading place (before ++ l ∷ []) }) (before ++ l ∷ [])
      (set_there k.loading place before (before ++ l ∷ []) at)
      ∙ (λ i. record k { loading = all_more place k.loading before at l ls i })

  -- .. and an event's loads
  pub loads_behind : (ls : List Load) (k : Columned) (before : List Load) → slice_get k.loading place ≡ Some before →
      loads_ended place (with_loads place ls k) ≡ record k { loads = added_at place (before ++ ls) k.loads; loading = slice_set k.loading place [] }
  loads_behind ls k before at =
      let there = set_there k.loading place before (before ++ ls) at in
      ap (loads_ended place) (loads_more ls k before at)
      ∙ (λ i. record k {
        loads = added_at place (get_or_from_slice_get (slice_set k.loading place (before ++ ls)) place (before ++ ls) [] there i) k.loads;
        loading = set_twice k.loading place (before ++ ls) [] i;
      })
