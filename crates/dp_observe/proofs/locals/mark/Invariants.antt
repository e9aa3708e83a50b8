use Rattle.std.proofs.Common.{◌≡◌, ℕ, ◌≤◌, ◌||◌, ◌&&◌, nat_le, nat_lt}
use Rattle.dp_observe.specs.Sparse.{at}
use Rattle.dp_observe.proofs.locals.mark.Given as goal

abbrev pub invariant-loop-cell : goal.invariant-loop-cell
invariant-loop-cell l = record {
  from : l.first ≤ l.cell;
  marked : (k : ℕ) → at l.cells k ≡ (at l.fn.cells k || (nat_le l.fn.first k && nat_lt k l.cell));
}
