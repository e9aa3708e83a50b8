-- One number in so many cells from a place on.
use Rattle.std.proofs.Common.{◌≡◌, ℕ, ℤ, ◌+◌, ◌<◌, List, [], ◌∷◌, ◌++◌, length, take, drop, replicate, sym, ap, ◌∙◌, append_assoc, length-append, arith}
use Rattle.std.proofs.Math.ListN.{set}
use Rattle.std.proofs.lemmas.List.{length-take-le, length-replicate}
use Rattle.std.proofs.lemmas.Grind.{replicate_next}
use Rattle.dp_room.proofs.ListLemmas.{at_index}
use Rattle.dp_memory.specs.Pieces.{filled}
use Rattle.dp_memory.proofs.Pieces.{set_right}
use Rattle.dp_memory.proofs.Held.{drop_one}

module _ (cells : List ℤ) (first : ℕ) (value : ℤ) where
  pub filled_next : (count : ℕ) → first + count < length cells → set (filled cells first count value) (first + count) value ≡ filled cells
      first (count + 1) value
  filled_next count within =
      let front = take first cells ++ replicate count value in
      let taken = length-take-le first cells (omega arith) in
      let middle = length-replicate count value in
      let long = length-append (take first cells) (replicate count value) in
      let item = at_index cells (first + count) within in
      let rest = drop (first + count + 1) cells in
      let next : first + count + 1 ≡ first + (count + 1) = omega arith in
      set_right front (drop (first + count) cells) (first + count) 0 value (omega arith)
      ∙ ap (λ (r : List ℤ). front ++ set r 0 value) (drop_one cells (first + count) item.0 item.1) ∙ sym (append_assoc front (value ∷ []) rest)
      ∙ ap (λ (r : List ℤ). r ++ rest) (append_assoc (take first cells) (replicate count value) (value ∷ []))
      ∙ ap (λ (r : List ℤ). take first cells ++ r ++ rest) (sym (replicate_next count value))
      ∙ ap (λ (k : ℕ). take first cells ++ replicate (count + 1) value ++ drop k cells) next
