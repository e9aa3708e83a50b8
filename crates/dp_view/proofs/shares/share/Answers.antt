use Rattle.std.proofs.Common.{sym, ◌∙◌, List, ℕ, arith}
use Rattle.std.proofs.lemmas.List.{at_drop_all}
use Rattle.dp_view.proofs.StageLemmas.{share_cells, share_is}
use Rattle.dp_view.proofs.shares.share.Goals as goal

pub returns : goal.returns
returns c =
    sym (at_drop_all (λ (cells : List ℕ). share_cells c.args.place cells c.loop-cell.views) c.args.cells.now c.loop-cell.cell-index
    (omega (arith, c.loop-cell-test.false)))
    ∙ c.loop-cell.invariant.views ∙ share_is c.args.place c.args.cells.now c.args.views.now c.requires.first c.requires.within
