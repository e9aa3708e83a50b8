use Rattle.std.specs.Prelude.{length, ◌-◌, ◌≤◌}
use Rattle.dp_waiting.proofs.beside.after.Given as goal

abbrev pub invariant-loop-to : goal.invariant-loop-to
invariant-loop-to l = (l.start ≤ l.to) × (l.to ≤ length l.bells)

abbrev pub decreases-loop-to : goal.decreases-loop-to
decreases-loop-to l = length l.bells - l.to
