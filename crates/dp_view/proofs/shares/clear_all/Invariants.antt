use Rattle.std.proofs.Common.{◌≡◌, ◌-◌, length, List, ℕ, ℤ}
use Rattle.dp_view.specs.Memories.{cleared_cells}
use Rattle.dp_view.proofs.StageLemmas.{changed}
use Rattle.dp_view.proofs.shares.clear_all.Given as goal

abbrev pub invariant-loop-place : goal.invariant-loop-place
invariant-loop-place l = l.views ≡ changed (λ (place : ℕ) (view : List ℤ). cleared_cells l.cells view) l.place l.initial.views

abbrev pub decreases-loop-place : goal.decreases-loop-place
decreases-loop-place l = length l.views - l.place
