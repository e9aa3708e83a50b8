use Rattle.std.proofs.Common.{◌≡◌}
use Rattle.dp_ring.specs.declared.view.Phase.TheVariants.{Taking}
use Rattle.dp_ring.specs.Tested.{IsSame}
use Rattle.dp_parts.proofs.tests.relay.take.Given as goal

abbrev pub invariant-loop : goal.invariant-loop
invariant-loop g l = (l.seat.view.phase ≡ Taking) × IsSame l.fn.seat l.seat
