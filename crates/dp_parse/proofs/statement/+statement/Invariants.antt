use Rattle.std.proofs.Common.{◌≡◌, ℕ, ◌+◌, ◌*◌, ◌≤◌, length}
use Rattle.dp_tokens.specs.declared.symbol.Symbol.TheVariants.{CloseBrace}
use Rattle.dp_tokens.specs.Steps.{parse_then, ◌>>=◌, pure, expect, many, sees_symbol}
use Rattle.dp_parse.specs.steps.Statements as spec
use Rattle.dp_parse.proofs.statement.+statement.Given as goal

abbrev pub decreases-statement : goal.decreases-statement
decreases-statement l = 4 * l.depth

abbrev pub decreases-block : goal.decreases-block
decreases-block l = 4 * l.depth + 1

abbrev pub decreases-otherwise : goal.decreases-otherwise
decreases-otherwise l = 4 * l.depth + 2

abbrev pub decreases-choice : goal.decreases-choice
decreases-choice l = 4 * l.depth + 3

abbrev pub decreases-repeated : goal.decreases-repeated
decreases-repeated l = 4 * l.depth + 3

abbrev pub decreases-counted : goal.decreases-counted
decreases-counted l = 4 * l.depth + 3

abbrev pub invariant-block-loop-alloc : goal.invariant-block-loop-alloc
invariant-block-loop-alloc l =
    (k : ℕ) × (length l.tokens ≤ k)
    × (spec.block (spec.statement l.depth) l.fn.tokens ≡ parse_then (many (sees_symbol CloseBrace) (spec.statement l.depth) k l.body l.tokens)
    (λ body. expect CloseBrace >>= (λ _. pure body)))

abbrev pub decreases-block-loop-alloc : goal.decreases-block-loop-alloc
decreases-block-loop-alloc l = length l.tokens
