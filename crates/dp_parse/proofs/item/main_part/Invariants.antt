use Rattle.std.proofs.Common.{◌≡◌, ℕ, ◌≤◌, length}
use Rattle.dp_tokens.specs.Steps.{parse_then, ◌>>=◌, pure, many}
use Rattle.dp_parse.specs.steps.Programs as spec
use Rattle.dp_parse.proofs.item.main_part.Given as goal

abbrev pub invariant-loop-alloc : goal.invariant-loop-alloc
invariant-loop-alloc l =
    (k : ℕ) × (length l.tokens ≤ k)
    × (spec.main_part l.fn.tokens ≡ parse_then (many spec.ends spec.top k l.body l.tokens) (λ body. spec.end >>= (λ _. pure body)))

abbrev pub decreases-loop-alloc : goal.decreases-loop-alloc
decreases-loop-alloc l = length l.tokens
