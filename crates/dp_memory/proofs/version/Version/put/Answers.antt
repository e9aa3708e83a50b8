use Rattle.std.proofs.Common.{rules, ◌≡◌, ap, sym, ◌∙◌, subst, to_z, of_z, w64}
use Rattle.std.proofs.Math.ListN.{set}
use Rattle.dp_memory.specs.Pieces.{joined, InPieces}
use Rattle.dp_memory.specs.Book.{book_pages}
use Rattle.dp_memory.proofs.Found.{cell_of, whole_with_cell, joined_with_cell}
use Rattle.dp_memory.proofs.version.Version.put.Goals as goal

pub set-requires-clause-cell : goal.set-requires-clause-cell
set-requires-clause-cell c = cell_of (book_pages c.self.inside.book) c.self.invariant.1 _ c.self.view_is c.args.place c.requires

pub invariant_of-self-2 : goal.invariant_of-self-2
invariant_of-self-2 c = (
  c.set.ensures.book,
  subst (λ r. InPieces 256 r) (sym c.in_ok-set.ensures.ok) (whole_with_cell (book_pages c.self.inside.book) c.self.invariant.1 _ c.self.view_is c.args.place
      c.requires (to_z w64 (of_z w64 c.args.value))),
)

pub returns-clause-ok : goal.returns-clause-ok
returns-clause-ok c =
    let fits : to_z w64 (of_z w64 c.args.value) ≡ c.args.value = search rules in
    ap joined c.in_ok-set.ensures.ok ∙ joined_with_cell (book_pages c.self.inside.book) c.self.invariant.1 _ c.self.view_is c.args.place c.requires
    (to_z w64 (of_z w64 c.args.value))
    ∙ ap (λ v. set c.args.self.now c.args.place v) fits
