use Rattle.std.proofs.Common.{◌≤◌}
use Rattle.dp_batch.proofs.sharing.most_threads.Given as goal

abbrev pub invariant-loop-region : goal.invariant-loop-region
invariant-loop-region l = 1 ≤ l.most
