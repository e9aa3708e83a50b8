use Rattle.std.proofs.Common.{◌≡◌, drop, length}
use Rattle.dp_view.proofs.StageLemmas.{share_cells}
use Rattle.dp_view.proofs.shares.share.Given as goal

abbrev pub invariant-loop-cell : goal.invariant-loop-cell
invariant-loop-cell l = record {
  views : share_cells l.place (drop l.cell-index l.cells) l.views ≡ share_cells l.place l.cells l.initial.views;
  size : length l.views ≡ length l.initial.views;
}
