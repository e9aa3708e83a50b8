use Rattle.std.proofs.Common.{pos, ap, sym, ◌∙◌, slice_get}
use Rattle.dp_memory.specs.Book.{book_pages}
use Rattle.dp_memory.proofs.Found.{found, none_found}
use Rattle.dp_memory.proofs.version.Version.find.Goals as goal

pub returns-in-Some : goal.returns-in-Some
returns-in-Some c =
    let pages = book_pages c.self.inside.book in
    c.at.ensures ∙ sym (found pages c.self.invariant.1 c.args.cell.0 (pos 0) c.in-Some.page.now c.in-Some.ensures)
    ∙ ap (λ r. slice_get r c.args.cell.0) c.self.view_is

pub returns-in-None : goal.returns-in-None
returns-in-None c =
    let pages = book_pages c.self.inside.book in
    sym (none_found pages c.self.invariant.1 c.args.cell.0 c.in-None.ensures) ∙ ap (λ r. slice_get r c.args.cell.0) c.self.view_is
