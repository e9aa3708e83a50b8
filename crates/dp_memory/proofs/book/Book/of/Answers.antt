use Rattle.std.proofs.Common.{◌≡◌, ◌*◌, ◌/◌, ◌≤◌, [], ◌∷◌, ◌++◌, ap, ◌∙◌, length, drop, arith}
use Rattle.std.proofs.lemmas.List.{take-append-drop}
use Rattle.dp_memory.specs.Pieces.{joined}
use Rattle.dp_memory.specs.Table.{table_pages}
use Rattle.dp_memory.proofs.Built.{one_piece, joined_one}
use Rattle.dp_memory.proofs.Pieces.{at_most, in_pieces_append, joined_append}
use Rattle.dp_memory.proofs.book.Book.of.Goals as goal

pub returns : goal.returns
returns c =
    let pages = table_pages c.in_ok-table.table in
    let last = c.in_ok-last.last.items in
    let less = c.saturating_sub-before.ensures in
    let front = ap length c.in_ok-table.ensures.1.0 in
    let front_len = c.split_at.ensures.front_len in
    let back = ap length c.in_ok-last.ensures.items in
    let back_len = c.split_at.ensures.back_len in
    let most = at_most 256 pages c.in_ok-table.ensures.1.1 in
    let few = c.in_ok-table.ensures.1.2 in
    let full : length (joined pages) ≡ 256 * length pages = omega arith in
    let short : length last ≤ 256 = omega arith in (
      (c.in_ok-table.ensures.0, omega arith),
      in_pieces_append 256 pages (last ∷ []) c.in_ok-table.ensures.1.1 full (one_piece 256 last short),
      joined_append 256 pages (last ∷ []) ∙ ap (λ r. joined pages ++ r) (joined_one last ∙ c.in_ok-last.ensures.items ∙ c.split_at.ensures.back)
          ∙ ap (λ r. r ++ drop (c.saturating_sub-before.result / 256 * 256) c.args.cells.now) (c.in_ok-table.ensures.1.0 ∙ c.split_at.ensures.front)
          ∙ take-append-drop (c.saturating_sub-before.result / 256 * 256) c.args.cells.now,
    )
