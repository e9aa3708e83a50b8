use Rattle.std.proofs.Common.{◌≡◌, ◌+◌, ◌<◌, ◌^◌, drop, sum}
use Rattle.dp_cut.proofs.site_weights.is_light.Given as goal

abbrev pub invariant-loop-weight : goal.invariant-loop-weight
invariant-loop-weight l = (sum l.weights + l.left ≡ sum (drop l.weight-index l.weights) + 2 ^ 63) × (0 < l.left)
