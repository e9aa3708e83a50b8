use Rattle.std.proofs.Common.{◌<◌, ◌≤◌, ◌-◌, ℕ, List, true, sum}
use Rattle.dp_least_cut.specs.steps.Fits.{Fits}
use Rattle.dp_least_cut.specs.steps.Best.{AreLimits}
use Rattle.dp_least_cut.proofs.bound.least_bound.Given as goal

abbrev pub invariant-loop-low : goal.invariant-loop-low
invariant-loop-low l = record {
  order : l.low ≤ l.high;
  small : l.high ≤ sum l.costs.weights.now;
  keeps : (carried : List (ℕ × ℕ)) → AreLimits carried l.costs.limits.now → Fits l.costs.weights.now carried l.costs.workers l.high l.stages true 0;
  least : (carried : List (ℕ × ℕ)) → AreLimits carried l.costs.limits.now → (lower : ℕ) → lower < l.low →
      Fits l.costs.weights.now carried l.costs.workers lower l.stages true 0 → ⊥;
}

abbrev pub decreases-loop-low : goal.decreases-loop-low
decreases-loop-low l = l.high - l.low
