-- A list of groups that is its own: what it shows, and with another group in one place.
use Rattle.std.proofs.Common.{◌≡◌, ◌<◌, ◌/◌, ◌%◌, ℕ, ℤ, List, map, length, get_or, slice_get, Some, None, sym, ap, ◌∙◌, subst}
use Rattle.std.proofs.Math.ListN.{set}
use Rattle.std.proofs.Math.Seq.{map-set_same}
use Rattle.dp_memory.specs.declared.piece.Piece.{Piece}
use Rattle.dp_memory.specs.Piece.{held, pages_of, groups_of}
use Rattle.dp_memory.specs.Pieces.{joined, InPieces, HasCell, with_cell}
use Rattle.dp_memory.proofs.Held.{own_items, stands}
use Rattle.dp_memory.proofs.Grouped.{group_there, cell_there, groups_set, groups_keep}

module _ (list : Piece (Piece (Piece ℤ))) (none : list.shared ≡ None) (before : List (List (List ℤ))) (same : groups_of list ≡ before)
    (whole : InPieces 16 before)
    (number : ℕ) (stored : number < length (joined before)) where
  shown : map pages_of list.own.items ≡ before
  shown = ap (map pages_of) (sym (own_items list.own.items list.shared none)) ∙ same

  grouped : InPieces 16 (map pages_of list.own.items)
  grouped = subst (λ r. InPieces 16 r) (sym shown) whole

  stored_now : number < length (joined (map pages_of list.own.items))
  stored_now = subst (λ r. number < length (joined r)) (sym shown) stored

  pub group_in : number / 16 < length list.own.items
  group_in = group_there list.own.items grouped number stored_now

  -- the group that the page stands in, and another one
  module _ (group : Piece (Piece ℤ)) (is : group ≡ get_or list.own.items (number / 16) group) where
    there : slice_get list.own.items (number / 16) ≡ Some group
    there = stands list.own.items (number / 16) group group_in is

    cell_now : (place : ℕ) → HasCell (joined before) number place → HasCell (joined (map pages_of list.own.items)) number place
    cell_now place cell = subst (λ r. HasCell (joined r) number place) (sym shown) cell

    pub cell_in_group : (place : ℕ) → HasCell (joined before) number place → HasCell (pages_of group) (number % 16) place
    cell_in_group place cell = cell_there list.own.items grouped number place (cell_now place cell) group there

    module _ (other : Piece (Piece ℤ)) where
      set_groups : map pages_of (held (set list.own.items (number / 16) other) list.shared) ≡ map pages_of (set list.own.items (number / 16) other)
      set_groups = ap (map pages_of) (own_items (set list.own.items (number / 16) other) list.shared none)

      pub still_whole : length (pages_of other) ≡ length (pages_of group) →
          InPieces 16 (map pages_of (held (set list.own.items (number / 16) other) list.shared))
      still_whole long = subst (λ r. InPieces 16 r) (sym set_groups) (groups_keep list.own.items grouped number group other there long)

      pub still_shown : pages_of other ≡ pages_of group → map pages_of (held (set list.own.items (number / 16) other) list.shared) ≡ before
      still_shown e = set_groups ∙ map-set_same pages_of list.own.items (number / 16) other group (e ∙ ap pages_of is) ∙ shown

      pub cell_written : (place : ℕ) (value : ℤ) → HasCell (joined before) number place →
          pages_of other ≡ with_cell (pages_of group) (number % 16) place value →
          joined (map pages_of (held (set list.own.items (number / 16) other) list.shared)) ≡ with_cell (joined before) number place value
      cell_written place value cell e =
          ap joined set_groups ∙ groups_set list.own.items grouped number group other there place value (cell_now place cell) e
          ∙ ap (λ r. with_cell (joined r) number place value) shown
