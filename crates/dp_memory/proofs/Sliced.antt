-- The slices of a range of cells, one for each page.
use Rattle.std.proofs.Common.{◌≡◌, ℕ, ℤ, ◌+◌, ◌-◌, ◌*◌, ◌/◌, ◌%◌, ◌<◌, ◌≤◌, List, length, take, drop, Some, slice_get, sym, ap, ◌∙◌, subst, take_all, ◌⊎◌, inl}
use Rattle.std.proofs.Common.{inr, min, arith}
use Rattle.std.proofs.lemmas.List.{take-take, drop-drop, drop-take, length-take, length-take-le}
use Rattle.std.proofs.lemmas.Option.{slice_get_within}
use Rattle.dp_memory.specs.Pieces.{joined, InPieces}
use Rattle.dp_memory.proofs.Pieces.{joined_there, piece_is}

module _ (pages : List (List ℤ)) (ok : InPieces 256 pages) (start end : ℕ) (some : start < end)
    (most : end ≤ length (joined pages)) where
  pub page_within : start / 256 < length pages
  page_within =
      let there = joined_there 256 pages ok (start / 256) (start % 256) (omega arith) (omega arith) in
      slice_get_within pages (start / 256) there.0 there.1

  pub place_within : (page : List ℤ) → slice_get pages (start / 256) ≡ Some page → start % 256 < length page
  place_within page at =
      let there = joined_there 256 pages ok (start / 256) (start % 256) (omega arith) (omega arith) in
      let both : Some there.0 ≡ Some page = sym there.1 ∙ at in
      let same : there.0 ≡ page = cc both in
      subst (λ r. start % 256 < length r) same there.2

  pub left_is : (page : List ℤ) → slice_get pages (start / 256) ≡ Some page → drop (start % 256) page ≡ take (256 - start % 256) (drop start (joined pages))
  left_is page at =
      let begin = drop (256 * (start / 256)) (joined pages) in
      let whole : 256 ≡ start % 256 + (256 - start % 256) = omega arith in
      let place : 256 * (start / 256) + start % 256 ≡ start = omega arith in
      ap (drop (start % 256)) (sym (piece_is 256 pages ok (start / 256) page at)) ∙ ap (λ n. drop (start % 256) (take n begin)) whole
      ∙ drop-take (start % 256) (256 - start % 256) begin ∙ ap (take (256 - start % 256)) (drop-drop (start % 256) (256 * (start / 256)) (joined pages))
      ∙ ap (λ k. take (256 - start % 256) (drop k (joined pages))) place

-- a cell's page is one of the pages
pub page_of_cell : (pages : List (List ℤ)) → InPieces 256 pages → (cells : List ℤ) → joined pages ≡ cells → (place : ℕ) → place < length cells
    → place / 256 < length pages
page_of_cell pages ok cells is place lt =
    let long = ap length is in
    page_within pages ok place (place + 1) (omega arith) (omega arith)

pub place_in_page : (pages : List (List ℤ)) → InPieces 256 pages → (cells : List ℤ) → joined pages ≡ cells → (place : ℕ) → place < length cells
    → (page : List ℤ) → slice_get pages (place / 256) ≡ Some page → place % 256 < length page
place_in_page pages ok cells is place lt page at =
    let long = ap length is in
    place_within pages ok place (place + 1) (omega arith) (omega arith) page at

pub at_most_or_more : (m r : ℕ) → (m ≤ r) ⊎ (r < m)
at_most_or_more m r = grind arith

-- the first of two counts that is reached
pub cut_at : (cells : List ℤ) (m r n : ℕ) → r ≤ length cells → (m ≤ r → n ≡ length (take m cells)) → (r < m → n ≡ r)
    → (m ≤ length cells → length (take m cells) ≡ m) → take n (take m cells) ≡ take m (take r cells)
cut_at cells m r n within first second long =
    elim (at_most_or_more m r) [
      | inl le ↦
          let short : length (take m cells) ≤ n = omega (arith, first le) in
          take_all n (take m cells) short ∙ sym (take-take m r cells le)
      | inr lt ↦
          let same = second lt in
          let most : length (take r cells) ≤ m = omega (arith, length-take-le r cells within) in
          ap (λ k. take k (take m cells)) same ∙ take-take r m cells (omega arith) ∙ sym (take_all m (take r cells) most)
    ]

pub next_view : (cells : List ℤ) (start end n : ℕ) (slice : List ℤ) → n ≤ end - start → start < end → length slice ≡ n
    → ◌≡◌ {A = ℕ × List ℤ} (start + n, take (end - (start + n)) (drop (start + n) cells))
    (start + length slice, drop (length slice) (take (end - start) (drop start cells)))
next_view cells start end n slice within some long =
    let count : end - start ≡ n + (end - (start + n)) = omega arith in
    let rest : take (end - (start + n)) (drop (start + n) cells) ≡ drop n (take (end - start) (drop start cells)) =
    ap (take (end - (start + n))) (sym (drop-drop n start cells)) ∙ sym (drop-take n (end - (start + n)) (drop start cells))
    ∙ ap (λ k. drop n (take k (drop start cells))) (sym count) in
    let pair : List ℤ → ℕ × List ℤ = λ (r : List ℤ). (start + n, r) in
    let moved : ℕ → ℕ × List ℤ = λ (k : ℕ). (start + k, drop k (take (end - start) (drop start cells))) in
    ap pair rest ∙ ap moved (sym long)

pub next_slice : (cells left : List ℤ) (m r n : ℕ) → left ≡ take m cells → r ≤ length cells → n ≡ min (length left) r → take n left ≡ take m (take r cells)
next_slice cells left m r n is within least =
    let long = length-take m cells in
    let same = ap length is in
    ap (take n) is ∙ cut_at cells m r n within (λ le. grind arith) (λ lt. grind arith) (λ le. grind arith)
