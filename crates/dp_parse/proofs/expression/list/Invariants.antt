use Rattle.std.proofs.Common.{◌≡◌, ℕ, ◌≤◌, length}
use Rattle.dp_tokens.specs.Steps.{separated}
use Rattle.dp_parse.specs.steps.Expressions as spec
use Rattle.dp_parse.proofs.expression.list.Given as goal

abbrev pub invariant-loop-found : goal.invariant-loop-found
invariant-loop-found l = (k : ℕ) × (length l.tokens ≤ k) × (spec.list l.fn.tokens ≡ separated spec.whole k l.found l.tokens)

abbrev pub decreases-loop-found : goal.decreases-loop-found
decreases-loop-found l = length l.tokens
