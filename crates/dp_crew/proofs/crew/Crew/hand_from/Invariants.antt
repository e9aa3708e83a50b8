use Rattle.std.specs.Prelude.{◌≡◌}
use Rattle.dp_crew.proofs.crew.Crew.hand_from.Given as goal

abbrev pub invariant-loop-done : goal.invariant-loop-done
invariant-loop-done g l = l.verdicts ≡ l.fn.verdicts
