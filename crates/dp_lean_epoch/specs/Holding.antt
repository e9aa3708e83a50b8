-- What columns hold of the iterations of a batch.
use Rattle.std.specs.Prelude.{◌≡◌, ◌<◌, ◌-◌, ℕ, Bool, true, List, ◌++◌, map, length, Some, slice_get}
use Rattle.std.specs.List.{flat_map}
use Rattle.dp_tree.specs.Numbering.{numbers_from}
use Rattle.dp_tree.specs.Eval.{Load}
use Rattle.dp_plan.specs.Access.{stage_of, first_site}
use Rattle.dp_plan.specs.Checked.{is_checked}
use Rattle.dp_semantics.specs.Judge.{last}
use Rattle.dp_semantics.specs.EpochKey.{EpochKey}
use Rattle.dp_net.specs.NetItems.{Marks, Item}
use Rattle.dp_lean.specs.Queues.{Told}
use Rattle.dp_lean.specs.Laws.{is_read}
use Rattle.dp_columns.specs.declared.ColumnKind.{ColumnKind}
use Rattle.dp_columns.specs.Columned.{Columned, nothing_kept}
use Rattle.dp_columns.specs.Telling.{put_items}
use Rattle.dp_lean_epoch.specs.Own.{own_items, own_told, own_loads, own_steps}

-- of which sites columns keep what they did, and of which what they loaded
pub record Kept : Type 0 where
  pub told : ℕ → Bool
  pub loads : ℕ → Bool

-- the columns of a stage, with a place for each site from the region's first on, and the number of steps of each iteration
pub record StageColumns : Type 0 where
  pub columns : Columned
  pub steps : List ℕ

-- the list begins with this front
abbrev pub BeginsWith : {X : Type 0} → List X → List X → Type 0
BeginsWith {X} front whole = (more : List X) × (whole ≡ front ++ more)

-- the place's list does
abbrev pub PlaceBegins : {X : Type 0} → List X → List (List X) → ℕ → Type 0
PlaceBegins {X} front lists place = (whole : List X) × (slice_get lists place ≡ Some whole) × BeginsWith front whole

-- the place of a site in columns
abbrev pub column_place : EpochKey → ℕ → ℕ
column_place key y = y - first_site key.program key.plan

module _ (m : Marks) (key : EpochKey) (kept : Kept) where
  -- Kept is of each site what a later stage or the judge reads, and of each checked site what the judge compares.
  pub record KeepsEnough : Type 0 where
    pub told : (s y : ℕ) → is_read key.program key.plan m s y ≡ true → stage_of key.program key.plan y < s → kept.told y ≡ true
    pub loads : (y : ℕ) → is_read key.program key.plan m (last key.plan) y ≡ true → is_checked key.program key.plan y ≡ true → kept.loads y ≡ true

  -- The columns of stage t begin with what it told at the j iterations from the k-th on, and so do its numbers of steps.
  -- Behind that is what it told later, or what a turn left that broke off.
  pub record HoldsTold (t k j : ℕ) (c : StageColumns) : Type 0 where
    pub told : (y : ℕ) → stage_of key.program key.plan y ≡ t → kept.told y ≡ true →
        PlaceBegins (flat_map (own_told m key y) (numbers_from k j)) c.columns.told (column_place key y)
    pub loads : (y : ℕ) → stage_of key.program key.plan y ≡ t → kept.loads y ≡ true →
        PlaceBegins (flat_map (own_loads m key y) (numbers_from k j)) c.columns.loads (column_place key y)
    pub steps : BeginsWith (map (own_steps m key t) (numbers_from k j)) c.steps

  -- what stage t tells at these iterations, one behind the other
  abbrev pub items_since : ℕ → ℕ → ℕ → List Item
  items_since t k j = flat_map (own_items m key t) (numbers_from k j)

  -- .. put into columns of these kinds, where nothing was
  abbrev pub columns_filled : List ColumnKind → ℕ → ℕ → ℕ → Columned
  columns_filled kinds t k j = put_items (first_site key.program key.plan) kept.told kept.loads (items_since t k j) (nothing_kept kinds)

  -- the kept sites have places
  abbrev pub HavePlaces : List ColumnKind → Type 0
  HavePlaces kinds = ((y : ℕ) → kept.told y ≡ true → column_place key y < length kinds) × ((y : ℕ) → kept.loads y ≡ true → column_place key y < length kinds)

-- each place's queues have become longer, or stayed
pub record QueuesGrown (old new : Columned) : Type 0 where
  pub told : (place : ℕ) (queue : List Told) → slice_get old.told place ≡ Some queue → PlaceBegins queue new.told place
  pub loads : (place : ℕ) (queue : List (List Load)) → slice_get old.loads place ≡ Some queue → PlaceBegins queue new.loads place
