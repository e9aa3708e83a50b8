use Rattle.std.proofs.Common.{◌≡◌, ℕ, ◌+◌, ◌*◌, ◌≤◌, length}
use Rattle.dp_parse.specs.steps.Expressions as spec
use Rattle.dp_parse.proofs.Levels.{rank}
use Rattle.dp_parse.proofs.expression.+expression.Given as goal

abbrev pub decreases-expression : goal.decreases-expression
decreases-expression l = 20 * l.depth + rank l.level + 3

abbrev pub decreases-nested : goal.decreases-nested
decreases-nested l = 20 * l.depth

abbrev pub decreases-primary : goal.decreases-primary
decreases-primary l = 20 * l.depth + 2

abbrev pub decreases-variable : goal.decreases-variable
decreases-variable l = 20 * l.depth + 1

abbrev pub invariant-expression-loop-join : goal.invariant-expression-loop-join
invariant-expression-loop-join l =
    (k : ℕ) × (length l.tokens ≤ k)
    × (spec.expression (spec.nested l.depth) l.level l.fn.tokens ≡ spec.chain l.level (spec.expression (spec.nested l.depth) l.inner) k l.found l.tokens)

abbrev pub decreases-expression-loop-join : goal.decreases-expression-loop-join
decreases-expression-loop-join l = length l.tokens
