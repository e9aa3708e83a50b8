use Rattle.std.proofs.Common.{◌≡◌, ◌≤◌, length}
use Rattle.dp_batch.proofs.many.no_texts.Given as goal

abbrev pub invariant-loop : goal.invariant-loop
invariant-loop l = (length l.texts.items ≡ l.counter) × (l.counter ≤ l.fn.count)
