use Rattle.std.proofs.Common.{◌≡◌, ◌<◌, ℕ, length, slice_index}
use Rattle.dp_least_cut.specs.steps.Fits.{IsLimit}
use Rattle.dp_least_cut.proofs.limits.limits.Given as goal

abbrev pub invariant-loop-begin : goal.invariant-loop-begin
invariant-loop-begin l = record {
  long : length l.limits.items ≡ l.begin;
  limits : (begin : ℕ) → begin < l.begin → IsLimit l.carried l.count begin (slice_index l.limits.items begin);
}
