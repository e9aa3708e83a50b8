use Rattle.std.proofs.Common.{◌≡◌, ◌≤◌, ◌-◌}
use Rattle.dp_ring.specs.declared.view.Phase.TheVariants.{Resting}
use Rattle.dp_ring.specs.Tested.{IsKeyed}
use Rattle.dp_parts.proofs.tests.relay.work.Given as goal

abbrev pub invariant-loop-rounds : goal.invariant-loop-rounds
invariant-loop-rounds g l = (l.seat.view.phase ≡ Resting) × (l.seat.view.drawn ≡ l.rounds) × (l.rounds ≤ 100000) × IsKeyed l.seat

abbrev pub decreases-loop-rounds : goal.decreases-loop-rounds
decreases-loop-rounds g l = 100000 - l.rounds
