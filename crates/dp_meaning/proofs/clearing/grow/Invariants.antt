use Rattle.dp_meaning.proofs.Names.{◌≡◌, ℕ, [], ◌-◌, length, get_or}
use Rattle.dp_meaning.proofs.clearing.grow.Given as goal

abbrev pub invariant-loop-alloc : goal.invariant-loop-alloc
invariant-loop-alloc l = (r : ℕ) → get_or l.rows r [] ≡ get_or l.initial.rows r []

abbrev pub decreases-loop-alloc : goal.decreases-loop-alloc
decreases-loop-alloc l = l.len - length l.rows
