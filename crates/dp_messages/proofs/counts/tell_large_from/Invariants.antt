use Rattle.std.proofs.Common.{◌≡◌}
use Rattle.dp_messages.proofs.counts.tell_large_from.Given as goal

abbrev pub invariant-loop-number : goal.invariant-loop-number
invariant-loop-number g l = (g.S.Shelf.contents l.shelf ≡ g.S.Shelf.contents l.initial.shelf) × (g.S.Shelf.faults l.shelf ≡ g.S.Shelf.faults l.initial.shelf)
