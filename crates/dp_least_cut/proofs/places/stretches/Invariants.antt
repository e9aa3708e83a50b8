use Rattle.std.proofs.Common.{◌≤◌, ◌++◌, ℕ, List, true}
use Rattle.dp_least_cut.specs.declared.Stretch.{Stretch}
use Rattle.dp_least_cut.specs.steps.Fits.{Fits}
use Rattle.dp_least_cut.specs.steps.Best.{AreLimits, Best}
use Rattle.dp_least_cut.proofs.places.stretches.Given as goal

abbrev pub invariant-loop-begin : goal.invariant-loop-begin
invariant-loop-begin l = record {
  few : l.left ≤ l.stages;
  fits : (carried : List (ℕ × ℕ)) → AreLimits carried l.costs.limits.now → Fits l.costs.weights.now carried l.costs.workers l.bound l.left l.closed l.begin;
  best : (carried : List (ℕ × ℕ)) → AreLimits carried l.costs.limits.now → (rest : List Stretch) →
      Best l.costs.weights.now carried l.costs.workers l.bound l.left l.closed l.begin rest
      → Best l.costs.weights.now carried l.costs.workers l.bound l.stages true 0 (l.cut ++ rest);
}

abbrev pub decreases-loop-begin : goal.decreases-loop-begin
decreases-loop-begin l = l.left
