use Rattle.std.specs.Prelude.{length, ◌≤◌}
use Rattle.dp_waiting.proofs.beside.before.Given as goal

abbrev pub invariant-loop-from : goal.invariant-loop-from
invariant-loop-from l = (l.from ≤ l.end) × (l.end ≤ length l.bells)

abbrev pub decreases-loop-from : goal.decreases-loop-from
decreases-loop-from l = l.from
