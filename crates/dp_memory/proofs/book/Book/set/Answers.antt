use Rattle.std.proofs.Common.{rules, ◌≡◌, [], ◌∷◌, ◌++◌, sym, ap, ◌∙◌, to_z, of_z, w64, arith}
use Rattle.std.proofs.Math.ListN.{set}
use Rattle.dp_memory.specs.Pieces.{with_cell}
use Rattle.dp_memory.specs.Table.{table_pages}
use Rattle.dp_memory.proofs.Held.{on_ok}
use Rattle.dp_memory.proofs.Booked.{at_last, cell_in_last, set_before, set_last}
use Rattle.dp_memory.proofs.book.Book.set.Goals as goal

pub returns-then-number-self-clause-ok : goal.returns-then-number-self-clause-ok
returns-then-number-self-clause-ok c =
    let fits : to_z w64 (of_z w64 c.args.value) ≡ c.args.value = search rules in
    let pages = table_pages c.args.self.now.table in
    let test = c.if-number-self.true in
    let count = c.requires.book.1 in
    let both = set_before pages c.args.self.now.last.items c.args.number c.args.place c.args.value (omega arith) in
    on_ok c.set.result (λ e. ap (λ r. r ++ c.args.self.now.last.items ∷ []) (e ∙ ap (λ v. with_cell pages c.args.number c.args.place v) fits)
    ∙ sym both) c.set.ensures.ok

pub index_mut-requires : goal.index_mut-requires
index_mut-requires c =
    let test = c.if-number-self.false in
    let count = c.requires.book.1 in
    let known = c.args.self.now.last.ok.0 in
    let within = cell_in_last (table_pages c.args.self.now.table) c.args.self.now.last.items c.args.number c.args.place c.requires.cell (omega arith) in
    omega arith

pub returns-clause-ok : goal.returns-clause-ok
returns-clause-ok c =
    let fits : to_z w64 (of_z w64 c.args.value) ≡ c.args.value = search rules in
    let pages = table_pages c.args.self.now.table in
    let test = c.if-number-self.false in
    let count = c.requires.book.1 in
    let here = at_last pages c.args.self.now.last.items c.args.number c.args.place c.requires.cell (omega arith) in
    ap (λ v. pages ++ set c.args.self.now.last.items c.args.place v ∷ []) fits
    ∙ sym (set_last pages c.args.self.now.last.items c.args.number c.args.place c.args.value here)
