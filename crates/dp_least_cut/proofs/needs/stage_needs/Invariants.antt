use Rattle.std.proofs.Common.{◌≡◌, ◌≤◌, ◌+◌, ℕ, List, true, false, length}
use Rattle.dp_least_cut.specs.steps.Fits.{TellsNeed}
use Rattle.dp_least_cut.specs.steps.Best.{AreLimits}
use Rattle.dp_least_cut.proofs.needs.stage_needs.Given as goal

abbrev pub invariant-loop-begin : goal.invariant-loop-begin
invariant-loop-begin l = record {
  low : l.begin ≤ length l.costs.weights.now;
  seq_length : length l.after_seq.items ≡ length l.costs.weights.now + 1;
  par_length : length l.after_par.items ≡ length l.costs.weights.now + 1;
  seq : (carried : List (ℕ × ℕ)) → AreLimits carried l.costs.limits.now → TellsNeed l.costs.weights.now carried l.costs.workers l.bound false
      l.begin l.after_seq.items;
  par : (carried : List (ℕ × ℕ)) → AreLimits carried l.costs.limits.now → TellsNeed l.costs.weights.now carried l.costs.workers l.bound true
      l.begin l.after_par.items;
}
