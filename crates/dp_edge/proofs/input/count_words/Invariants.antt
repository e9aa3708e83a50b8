-- The words so far and those that are left; each word has a byte at least.
use Rattle.std.proofs.Common.{◌≡◌, ◌+◌, ◌≤◌, length}
use Rattle.dp_edge.specs.Input.{input_words}
use Rattle.dp_edge.proofs.input.count_words.Given as goal

abbrev pub invariant-words : goal.invariant-words
invariant-words l =
    (l.count + length (input_words l.rest) ≡ length (input_words l.fn.text)) × (l.count + length l.rest ≤ length l.fn.text)

abbrev pub decreases-words : goal.decreases-words
decreases-words l = length l.rest
