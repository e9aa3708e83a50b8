-- What a row ends as, where a `&mut` to its items is returned.
use Rattle.std.specs.Prelude.{ℕ, List, ◌++◌, length, take, drop, Option, slice_set}
use Rattle.std.specs.Borrow.{Lends, LendsIf, Fml, RattleType, MutBor, Array}
use Rattle.dp_room.specs.contracts.row.Row.{the_row}
use Rattle.dp_room.specs.contracts.boxed.Boxed as boxed

-- the items with others written over them from the front
abbrev pub with_items : {X : Type 0} → List X → List X → List X
with_items items written = take (length items) (written ++ drop (length written) items)

module _ (T : RattleType) (row : MutBor (List T.Denot)) where
  -- once the borrow r ends, the items are those that r shows last, which are as many as before
  abbrev pub lends_slice : MutBor (List T.Denot) → Fml
  lends_slice r = Lends (the_row T) (Array T 0) row r (with_items row.now)

  -- Once the borrow r ends, the place has the last value written through r. At `None` the row stays as it is.
  abbrev pub lends_item : ℕ → Option (MutBor T.Denot) → Fml
  lends_item place r = LendsIf (the_row T) T row r (slice_set row.now place) row.now

-- once the borrow r ends, the box holds the last value written through r
abbrev pub lends_inside : (T : RattleType) → MutBor T.Denot → MutBor T.Denot → Fml
lends_inside T b r = Lends (boxed.the_row T) T b r (λ value. value)
