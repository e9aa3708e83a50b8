use Rattle.std.proofs.Common.{◌≡◌, ◌≤◌}
use Rattle.dp_ring.specs.Tested.{IsKeyed}
use Rattle.dp_parts.proofs.tests.relay.consume.Given as goal

abbrev pub invariant-loop : goal.invariant-loop
invariant-loop g l = (l.next ≡ l.seat.view.at) × (l.next ≤ 100000) × IsKeyed l.seat
