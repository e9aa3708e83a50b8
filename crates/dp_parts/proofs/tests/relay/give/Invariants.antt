use Rattle.std.proofs.Common.{◌≡◌}
use Rattle.dp_ring.specs.declared.view.Phase.TheVariants.{Giving}
use Rattle.dp_ring.specs.Tested.{IsSame}
use Rattle.dp_parts.proofs.tests.relay.give.Given as goal

abbrev pub invariant-loop : goal.invariant-loop
invariant-loop g l = (l.seat.view.phase ≡ Giving) × IsSame l.fn.seat l.seat
