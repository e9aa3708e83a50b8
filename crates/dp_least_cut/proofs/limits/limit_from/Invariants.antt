use Rattle.std.proofs.Common.{◌<◌, ◌≤◌, ℕ, slice_index_or}
use Rattle.dp_least_cut.specs.Allowed.{IsBetween}
use Rattle.dp_least_cut.proofs.limits.limit_from.Given as goal

abbrev pub invariant-loop-from : goal.invariant-loop-from
invariant-loop-from l = record {
  low : (end : ℕ) → end ≤ l.limit → (end ≤ l.count) × ((k : ℕ) (d : ℕ × ℕ) → k < l.from-index → ¬ (IsBetween l.begin end (slice_index_or l.carried k d).0
      × IsBetween l.begin end (slice_index_or l.carried k d).1));
  high : (end : ℕ) → end ≤ l.count → ((k : ℕ) (d : ℕ × ℕ) → k < l.from-index → ¬ (IsBetween l.begin end (slice_index_or l.carried k d).0
      × IsBetween l.begin end (slice_index_or l.carried k d).1)) → end ≤ l.limit;
}
