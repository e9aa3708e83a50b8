use Rattle.std.proofs.Common.{◌≡◌, ℕ, ◌≤◌, length}
use Rattle.dp_tokens.specs.Steps.{separated}
use Rattle.dp_parse.specs.steps.Programs as spec
use Rattle.dp_parse.proofs.item.params.Given as goal

abbrev pub invariant-loop-found : goal.invariant-loop-found
invariant-loop-found l = (k : ℕ) × (length l.tokens ≤ k) × (spec.params l.fn.tokens ≡ separated spec.param k l.found l.tokens)

abbrev pub decreases-loop-found : goal.decreases-loop-found
decreases-loop-found l = length l.tokens
