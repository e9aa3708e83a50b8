use Rattle.std.proofs.Common.{◌≡◌, ◌-◌, length}
use Rattle.dp_view.specs.Viewed.{effect_of}
use Rattle.dp_view.proofs.StageLemmas.{changed, shown_at}
use Rattle.dp_view.proofs.shares.show.Given as goal

abbrev pub invariant-loop-place : goal.invariant-loop-place
invariant-loop-place l = l.views ≡ changed (shown_at l.stage (effect_of l.effect)) l.place l.initial.views

abbrev pub decreases-loop-place : goal.decreases-loop-place
decreases-loop-place l = length l.views - l.place
