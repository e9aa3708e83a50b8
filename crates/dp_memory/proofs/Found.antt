-- What is found at a place of the whole, by its piece.
use Rattle.std.proofs.Common.{◌≡◌, ℕ, ℤ, ◌+◌, ◌*◌, ◌/◌, ◌%◌, ◌<◌, ◌≤◌, List, [], length, Some, None, inl, inr, sym, ap, ◌∙◌, get_or, slice_get, arith}
use Rattle.std.proofs.lemmas.Bool.{cases_lt}
use Rattle.std.proofs.lemmas.Option.{slice_get_within, slice_get_past, slice_get-get_or, get_or_from_slice_get}
use Rattle.std.proofs.lemmas.List.{length-set}
use Rattle.std.proofs.Math.ListN.{set}
use Rattle.dp_memory.specs.Pieces.{joined, InPieces, HasCell, with_cell}
use Rattle.dp_memory.proofs.Pieces.{joined_get, joined_there, joined_item, in_pieces_set}

module _ {X : Type 0} (ps : List (List X)) (ok : InPieces 256 ps) (c : ℕ) where
  pub found : (d : X) (p : List X) → slice_get ps (c / 256) ≡ Some p → slice_get (joined ps) c ≡ slice_get p (c % 256)
  found d p at =
      let spot : c ≡ 256 * (c / 256) + c % 256 = omega arith in
      elim (cases_lt (c % 256) (length p)) [
        | inl within ↦
            let e = slice_get-get_or p (c % 256) d within in
            ap (slice_get (joined ps)) spot ∙ joined_get 256 ps ok (c / 256) (c % 256) p (get_or p (c % 256) d) at e ∙ sym e
        | inr beyond ↦ elim (cases_lt c (length (joined ps))) [
          | inl inside ↦
              let there = joined_there 256 ps ok (c / 256) (c % 256) (omega arith) (omega arith) in
              let both : Some there.0 ≡ Some p = sym there.1 ∙ at in
              let same : there.0 ≡ p = cc both in
              let long = ap length same in
              let short = there.2 in
              absurd (omega arith)
          | inr past ↦ slice_get_past (joined ps) c past ∙ sym (slice_get_past p (c % 256) beyond)
        ]
      ]

  pub none_found : length ps ≤ c / 256 → slice_get (joined ps) c ≡ None
  none_found few = elim (cases_lt c (length (joined ps))) [
    | inl inside ↦
        let there = joined_there 256 ps ok (c / 256) (c % 256) (omega arith) (omega arith) in
        let within = slice_get_within ps (c / 256) there.0 there.1 in
        absurd (omega arith)
    | inr past ↦ slice_get_past (joined ps) c past
  ]

-- a cell stands in its page, and with another value there the whole has that value
module _ (pages : List (List ℤ)) (ok : InPieces 256 pages) (cells : List ℤ) (is : joined pages ≡ cells) (place : ℕ) (lt : place < length cells) where
  pub cell_of : HasCell pages (place / 256) (place % 256)
  cell_of = let long = ap length is in joined_there 256 pages ok (place / 256) (place % 256) (omega arith) (omega arith)

  page : get_or pages (place / 256) [] ≡ cell_of.0
  page = get_or_from_slice_get pages (place / 256) cell_of.0 [] cell_of.1

  pub whole_with_cell : (value : ℤ) → InPieces 256 (with_cell pages (place / 256) (place % 256) value)
  whole_with_cell value =
      let long = length-set (get_or pages (place / 256) []) (place % 256) value ∙ ap length page in
      in_pieces_set 256 pages ok (place / 256) cell_of.0 (set (get_or pages (place / 256) []) (place % 256) value) cell_of.1 long

  pub joined_with_cell : (value : ℤ) → joined (with_cell pages (place / 256) (place % 256) value) ≡ set cells place value
  joined_with_cell value =
      let spot : 256 * (place / 256) + place % 256 ≡ place = omega arith in
      ap (λ r. joined (set pages (place / 256) (set r (place % 256) value))) page
      ∙ joined_item 256 pages ok (place / 256) (place % 256) cell_of.0 value cell_of.1 cell_of.2
      ∙ ap (λ k. set (joined pages) k value) spot ∙ ap (λ r. set r place value) is
