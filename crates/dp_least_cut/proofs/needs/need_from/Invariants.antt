use Rattle.std.proofs.Common.{◌≡◌, ◌↔◌, ◌≤◌, ℕ}
use Rattle.dp_least_cut.specs.Allowed.{weight_between}
use Rattle.dp_least_cut.specs.steps.Best.{HasFirst}
use Rattle.dp_least_cut.proofs.needs.need_from.Given as goal

abbrev pub invariant-loop-last : goal.invariant-loop-last
invariant-loop-last l = record {
  weight : l.weight ≡ weight_between l.costs.weights.now l.begin l.last;
  need : (most : ℕ) → most ≤ 8 → (l.least ≤ most) ↔ HasFirst l.costs.weights.now l.costs.limits.now l.costs.workers l.bound l.after_seq l.after_par l.closed
      l.begin l.last most;
}
