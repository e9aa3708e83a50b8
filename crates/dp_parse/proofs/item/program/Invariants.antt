use Rattle.std.proofs.Common.{◌≡◌, ℕ, ◌≤◌, length}
use Rattle.dp_parse.specs.steps.Programs as spec
use Rattle.dp_parse.proofs.item.program.Given as goal

abbrev pub invariant-loop-items : goal.invariant-loop-items
invariant-loop-items l = (k : ℕ) × (length l.tokens ≤ k) × (spec.program l.fn.tokens ≡ spec.program_from k l.items l.tokens)

abbrev pub decreases-loop-items : goal.decreases-loop-items
decreases-loop-items l = length l.tokens
