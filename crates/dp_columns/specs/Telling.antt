-- Items put into columns, one behind the other, and the law that the columns then hold their queues.
use Rattle.std.specs.Prelude.{◌≡◌, ◌≤◌, ◌-◌, ℕ, if◌then◌else◌, Bool, true, List, [], ◌∷◌, ◌++◌, Some, slice_get}
use Rattle.dp_base.specs.declared.Word.{Word}
use Rattle.dp_tree.specs.Eval.{Load}
use Rattle.dp_semantics.specs.Words.{is_load}
use Rattle.dp_net.specs.NetItems.{Item, Said, Net}
use Rattle.dp_lean.specs.Queues.{Told, Did, DidBlock, load_in, told_in, loads_told}
use Rattle.dp_columns.specs.Columned.{Columned, with_told, with_load, loads_ended}

-- the site that the item is of
abbrev pub item_site : Item → ℕ
item_site (Said w) = w.site.0
item_site (Net f count stores) = f

-- each item is of one of the region's sites, which begin with this one
abbrev pub AllFrom : ℕ → List Item → Type 0
AllFrom first [] = Unit {0}
AllFrom first (i ∷ rest) = (first ≤ item_site i) × AllFrom first rest

-- of some sites is kept what they told, and of some what they loaded
module _ (first : ℕ) (is_kept is_compared : ℕ → Bool) where
  abbrev pub put_load_word : Word → Columned → Columned
  put_load_word w k = if is_compared w.site.0 then with_load (w.site.0 - first) (load_in w) k else k

  abbrev pub put_done_word : Word → Columned → Columned
  put_done_word w k = if is_kept w.site.0 then with_told (w.site.0 - first) (Did w.index w.value) k else k

  abbrev pub end_word : Word → Columned → Columned
  end_word w k = if is_compared w.site.0 then loads_ended (w.site.0 - first) k else k

  -- the item is put into the columns of its site's place
  abbrev pub put_item : Item → Columned → Columned
  put_item (Said w) k = if is_load w.kind then put_load_word w k else end_word w (put_done_word w k)
  put_item (Net f count stores) k = if is_kept f then with_told (f - first) (DidBlock stores) k else k

  -- .. and all items
  abbrev pub put_items : List Item → Columned → Columned
  put_items [] k = k
  put_items (i ∷ rest) k = put_items rest (put_item i k)

  -- The columns of a kept site grow by its queue, and those of a compared one by the queue of its loads.
  abbrev pub HoldQueues : Type 0
  HoldQueues = (items : List Item) → AllFrom first items → (k : Columned) (y : ℕ) → first ≤ y →
      (is_kept y ≡ true → (queue : List Told) → slice_get k.told (y - first) ≡ Some queue →
      slice_get (put_items items k).told (y - first) ≡ Some (queue ++ told_in y items))
      × (is_compared y ≡ true → (queue : List (List Load)) (before : List Load) →
      slice_get k.loads (y - first) ≡ Some queue → slice_get k.loading (y - first) ≡ Some before →
      slice_get (put_items items k).loads (y - first) ≡ Some (queue ++ loads_told y before items))
