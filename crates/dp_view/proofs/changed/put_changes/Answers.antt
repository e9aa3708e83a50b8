use Rattle.std.proofs.Common.{sym, ◌∙◌, ◌++◌, append-nil, length, List, ℕ, arith}
use Rattle.std.proofs.lemmas.List.{at_drop_all}
use Rattle.dp_view.specs.Changed.{differs}
use Rattle.dp_view.proofs.ChangeLemmas.{found_from, changes_found}
use Rattle.dp_view.proofs.changed.put_changes.Goals as goal

pub returns : goal.returns
returns c among =
    let test = differs c.args.before.now c.args.after.now in
    sym (append-nil c.loop-cell.out)
    ∙ sym (at_drop_all (λ (cells : List ℕ). c.loop-cell.out ++ found_from test (length c.args.after.now) c.loop-cell.next cells) c.args.cells.now
    c.loop-cell.cell-index (omega (arith, c.loop-cell-test.false)))
    ∙ c.loop-cell.invariant ∙ changes_found test (length c.args.after.now) c.args.cells.now c.requires among
