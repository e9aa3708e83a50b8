-- Pages in groups.
use Rattle.std.proofs.Common.{◌≡◌, ℕ, ℤ, ◌+◌, ◌*◌, ◌/◌, ◌%◌, ◌<◌, List, [], length, map, Some, sym, ap, ◌∙◌, subst, slice_get, get_or, arith}
use Rattle.std.proofs.lemmas.List.{length-map, map-set}
use Rattle.std.proofs.Math.ListN.{set}
use Rattle.std.proofs.lemmas.Option.{slice_get_within, slice_get-map, slice_get-get_or, get_or_from_slice_get}
use Rattle.std.specs.Option.{option_map}
use Rattle.dp_memory.specs.declared.piece.Piece.{Piece}
use Rattle.dp_memory.specs.Piece.{items_of, pages_of}
use Rattle.dp_memory.specs.Pieces.{joined, InPieces, HasCell, with_cell}
use Rattle.dp_memory.proofs.Pieces.{joined_get, joined_there, joined_item, in_pieces_set}

module _ (groups : List (Piece (Piece ℤ))) (ok : InPieces 16 (map pages_of groups)) (number : ℕ) where
  pub group_there : number < length (joined (map pages_of groups)) → number / 16 < length groups
  group_there within =
      let there = joined_there 16 (map pages_of groups) ok (number / 16) (number % 16) (omega arith) (omega arith) in
      let before = slice_get_within (map pages_of groups) (number / 16) there.0 there.1 in
      let long : length (map pages_of groups) ≡ length groups = length-map groups pages_of in
      omega arith

  pub page_there : number < length (joined (map pages_of groups)) → (group : Piece (Piece ℤ))
      → slice_get groups (number / 16) ≡ Some group → number % 16 < length (items_of group)
  page_there within group at =
      let there = joined_there 16 (map pages_of groups) ok (number / 16) (number % 16) (omega arith) (omega arith) in
      let pages : Some there.0 ≡ Some (pages_of group) = sym there.1 ∙ slice_get-map pages_of groups (number / 16) ∙ ap (option_map pages_of) at in
      let same : there.0 ≡ pages_of group = cc pages in
      let short : number % 16 < length (pages_of group) = subst (λ r. number % 16 < length r) same there.2 in
      let long : length (map items_of (items_of group)) ≡ length (items_of group) = length-map (items_of group) items_of in
      omega arith

  pub page_in : (group : Piece (Piece ℤ)) → slice_get groups (number / 16) ≡ Some group → (cells : List ℤ)
      → slice_get (pages_of group) (number % 16) ≡ Some cells → slice_get (joined (map pages_of groups)) number ≡ Some cells
  page_in group at cells there =
      let one : slice_get (map pages_of groups) (number / 16) ≡ Some (pages_of group) = slice_get-map pages_of groups (number / 16)
      ∙ ap (option_map pages_of) at in
      let place : number ≡ 16 * (number / 16) + number % 16 = omega arith in
      ap (slice_get (joined (map pages_of groups))) place ∙ joined_get 16 (map pages_of groups) ok (number / 16) (number % 16) (pages_of group) cells one there

  pub page_value : (group : Piece (Piece ℤ)) (page : Piece ℤ) → slice_get groups (number / 16) ≡ Some group →
      slice_get (items_of group) (number % 16) ≡ Some page
      → slice_get (joined (map pages_of groups)) number ≡ Some (items_of page)
  page_value group page at stands = page_in group at (items_of page) (slice_get-map items_of (items_of group) (number % 16) ∙ ap (option_map items_of) stands)

  pub cell_there : (place : ℕ) → HasCell (joined (map pages_of groups)) number place → (group : Piece (Piece ℤ))
      → slice_get groups (number / 16) ≡ Some group → HasCell (pages_of group) (number % 16) place
  cell_there place cell group at =
      let within = slice_get_within (joined (map pages_of groups)) number cell.0 cell.1 in
      let inside = page_there within group at in
      let long : length (map items_of (items_of group)) ≡ length (items_of group) = length-map (items_of group) items_of in
      let one : slice_get (map pages_of groups) (number / 16) ≡ Some (pages_of group) = slice_get-map pages_of groups (number / 16)
      ∙ ap (option_map pages_of) at in
      let two = slice_get-get_or (pages_of group) (number % 16) [] (omega arith) in
      let page = get_or (pages_of group) (number % 16) [] in
      let spot : number ≡ 16 * (number / 16) + number % 16 = omega arith in
      let there : slice_get (joined (map pages_of groups)) number ≡ Some page = ap (slice_get (joined (map pages_of groups))) spot
      ∙ joined_get 16 (map pages_of groups) ok (number / 16) (number % 16) (pages_of group) page one two in
      let both : Some page ≡ Some cell.0 = sym there ∙ cell.1 in
      let same : page ≡ cell.0 = cc both in
      (page, two, subst (λ r. place < length r) (sym same) cell.2)

  module _ (group other : Piece (Piece ℤ)) (at : slice_get groups (number / 16) ≡ Some group) where
    pub groups_set : (place : ℕ) (value : ℤ) → HasCell (joined (map pages_of groups)) number place
        → pages_of other ≡ with_cell (pages_of group) (number % 16) place value
        → joined (map pages_of (set groups (number / 16) other)) ≡ with_cell (joined (map pages_of groups)) number place value
    groups_set place value cell is =
        let inner = cell_there place cell group at in
        let one : slice_get (map pages_of groups) (number / 16) ≡ Some (pages_of group) =
        slice_get-map pages_of groups (number / 16) ∙ ap (option_map pages_of) at in
        let within = slice_get_within (pages_of group) (number % 16) inner.0 inner.1 in
        let written = set (get_or (pages_of group) (number % 16) []) place value in
        let spot : 16 * (number / 16) + number % 16 ≡ number = omega arith in
        let there : slice_get (joined (map pages_of groups)) number ≡ Some inner.0 = ap (slice_get (joined (map pages_of groups))) (sym spot)
        ∙ joined_get 16 (map pages_of groups) ok (number / 16) (number % 16) (pages_of group) inner.0 one inner.1 in
        let same : get_or (pages_of group) (number % 16) [] ≡ get_or (joined (map pages_of groups)) number [] =
        get_or_from_slice_get (pages_of group) (number % 16) inner.0 [] inner.1
        ∙ sym (get_or_from_slice_get (joined (map pages_of groups)) number inner.0 [] there) in
        ap joined (map-set pages_of groups (number / 16) other) ∙ ap (λ r. joined (set (map pages_of groups) (number / 16) r)) is
        ∙ joined_item 16 (map pages_of groups) ok (number / 16) (number % 16) (pages_of group) written one within
        ∙ ap (λ k. set (joined (map pages_of groups)) k written) spot ∙ ap (λ r. set (joined (map pages_of groups)) number (set r place value)) same

    pub groups_keep : length (pages_of other) ≡ length (pages_of group) → InPieces 16 (map pages_of (set groups (number / 16) other))
    groups_keep long =
        let one : slice_get (map pages_of groups) (number / 16) ≡ Some (pages_of group) =
        slice_get-map pages_of groups (number / 16) ∙ ap (option_map pages_of) at in
        subst (λ r. InPieces 16 r) (sym (map-set pages_of groups (number / 16) other))
        (in_pieces_set 16 (map pages_of groups) ok (number / 16) (pages_of group) (pages_of other) one long)
