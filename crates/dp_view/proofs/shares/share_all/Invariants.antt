use Rattle.std.proofs.Common.{◌≡◌, ◌-◌, ◌≤◌, length}
use Rattle.dp_view.proofs.StageLemmas.{shared}
use Rattle.dp_view.proofs.shares.share_all.Given as goal

abbrev pub invariant-loop-place : goal.invariant-loop-place
invariant-loop-place l = record { views : l.views ≡ shared l.plan l.cells (l.place - 1) l.initial.views; low : 1 ≤ l.place }

abbrev pub decreases-loop-place : goal.decreases-loop-place
decreases-loop-place l = length l.views - l.place
