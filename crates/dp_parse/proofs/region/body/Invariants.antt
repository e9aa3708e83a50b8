use Rattle.std.proofs.Common.{◌≡◌, ℕ, ◌≤◌, length}
use Rattle.dp_tokens.specs.declared.symbol.Symbol.TheVariants.{CloseBrace}
use Rattle.dp_tokens.specs.Steps.{parse_then, ◌>>=◌, pure, expect, many, sees_symbol}
use Rattle.dp_parse.specs.steps.Statements.{statement}
use Rattle.dp_parse.specs.steps.Regions as spec
use Rattle.dp_parse.proofs.region.body.Given as goal

abbrev pub invariant-loop-alloc : goal.invariant-loop-alloc
invariant-loop-alloc l =
    (k : ℕ) × (length l.tokens ≤ k)
    × (spec.body (statement l.depth) l.fn.tokens ≡ parse_then (many (sees_symbol CloseBrace) (spec.inside (statement l.depth)) k l.body l.tokens)
    (λ body. expect CloseBrace >>= (λ _. pure body)))

abbrev pub decreases-loop-alloc : goal.decreases-loop-alloc
decreases-loop-alloc l = length l.tokens
