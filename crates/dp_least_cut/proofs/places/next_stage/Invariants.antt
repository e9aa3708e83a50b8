use Rattle.std.proofs.Common.{◌<◌, ℕ, Bool, List}
use Rattle.dp_least_cut.specs.steps.Fits.{Fits}
use Rattle.dp_least_cut.specs.steps.Best.{AreLimits, MayStand}
use Rattle.dp_least_cut.proofs.places.next_stage.Given as goal

abbrev pub invariant-loop-end : goal.invariant-loop-end
invariant-loop-end l = (carried : List (ℕ × ℕ)) → AreLimits carried l.costs.limits.now → (e : ℕ) (r : Bool) → e < l.end →
    MayStand l.costs.weights.now carried l.costs.workers l.bound l.closed l.begin e r
    → Fits l.costs.weights.now carried l.costs.workers l.bound l.left r e → ⊥
