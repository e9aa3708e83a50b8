-- Items that are put into columns leave no block that waits for its end.
use Rattle.dp_semantics.proofs.Names.{◌≡◌, refl, sym, ap, ◌∙◌, ℕ, ◌-◌, Bool, true, false, if◌then◌else◌, List, [], ◌∷◌, map}
use Rattle.dp_semantics.specs.Words.{is_load}
use Rattle.dp_semantics.specs.EpochKey.{EpochKey}
use Rattle.dp_net.specs.NetItems.{Marks, Item, Said, Net}
use Rattle.dp_lean.specs.Queues.{Did, DidBlock, load_in}
use Rattle.dp_columns.specs.declared.ColumnKind.{ColumnKind}
use Rattle.dp_columns.specs.Columned.{Columned, nothing_kept, with_told, with_load, loads_ended}
use Rattle.dp_columns.specs.Telling.{put_load_word, put_done_word, end_word, put_item, put_items}
use Rattle.dp_lean_turn.specs.Standing.{IsSettled}
use Rattle.dp_lean_epoch.specs.Holding.{Kept, columns_filled, items_since}
use Rattle.dp_plan.specs.Access.{first_site}

-- the kinds are the same, and so are the stores of blocks that aren't ended
record SameBlocks (old new : Columned) : Type 0 where
  kinds : new.kinds ≡ old.kinds
  stores : new.stores ≡ old.stores

same_then : (a b c : Columned) → SameBlocks a b → SameBlocks b c → SameBlocks a c
same_then a b c first second = record { kinds = second.kinds ∙ first.kinds; stores = second.stores ∙ first.stores }

same_if : (q : Bool) (k new : Columned) → SameBlocks k new → SameBlocks k (if q then new else k)
same_if true k new same = same
same_if false k new same = record { kinds = refl; stores = refl }

module _ (first : ℕ) (is_kept is_compared : ℕ → Bool) where
  item_same : (i : Item) (k : Columned) → SameBlocks k (put_item first is_kept is_compared i k)
  item_same (Said w) k = by (is_load w.kind)
    where
      done : Columned
      done = put_done_word first is_kept is_compared w k

      told : SameBlocks k done
      told = same_if (is_kept w.site.0) k (with_told (w.site.0 - first) (Did w.index w.value) k) (record { kinds = refl; stores = refl })

      by : (q : Bool) → SameBlocks k (if q then put_load_word first is_kept is_compared w k else end_word first is_kept is_compared w done)
      by true = same_if (is_compared w.site.0) k (with_load (w.site.0 - first) (load_in w) k) (record { kinds = refl; stores = refl })
      by false = same_then k done (end_word first is_kept is_compared w done) told
          (same_if (is_compared w.site.0) done (loads_ended (w.site.0 - first) done) (record { kinds = refl; stores = refl }))
  item_same (Net f count stores) k = same_if (is_kept f) k (with_told (f - first) (DidBlock stores) k) (record { kinds = refl; stores = refl })

  items_same : (is : List Item) (k : Columned) → SameBlocks k (put_items first is_kept is_compared is k)
  items_same [] k = record { kinds = refl; stores = refl }
  items_same (i ∷ rest) k =
      let next = put_item first is_kept is_compared i k in
      same_then k next (put_items first is_kept is_compared rest next) (item_same i k) (items_same rest next)

still_settled : (k new : Columned) → SameBlocks k new → IsSettled k → IsSettled new
still_settled k new same settled = same.stores ∙ settled ∙ ap (map (λ _. [])) (sym same.kinds)

-- so it is of columns that were empty
pub filled_settled : (m : Marks) (key : EpochKey) (kept : Kept) (kinds : List ColumnKind) (t k j : ℕ) → IsSettled (columns_filled m key kept kinds t k j)
filled_settled m key kept kinds t k j =
    still_settled (nothing_kept kinds) (columns_filled m key kept kinds t k j) (items_same (first_site key.program key.plan) kept.told kept.loads
    (items_since m key kept t k j) (nothing_kept kinds)) refl
