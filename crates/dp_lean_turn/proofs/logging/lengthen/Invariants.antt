use Rattle.std.proofs.Common.{◌≡◌, ◌++◌, length, List, ℕ, ◌≤◌}
use Rattle.dp_lean_turn.proofs.logging.lengthen.Given as goal

abbrev pub invariant-loop : goal.invariant-loop
invariant-loop l = ((more : List ℕ) × (l.places ≡ l.initial.places ++ more)) × (l.counter ≤ length l.places)
