-- The numbers so far, and then those of the words that are left.
use Rattle.std.proofs.Common.{◌≡◌, ◌+◌, length}
use Rattle.dp_edge.specs.Input.{input_words, numbers_at}
use Rattle.dp_edge.proofs.Inputs.{numbers_behind}
use Rattle.dp_edge.proofs.input.read_words.Given as goal

abbrev pub invariant-words : goal.invariant-words
invariant-words l =
    (numbers_behind l.numbers (numbers_at l.place (input_words l.rest)) ≡ numbers_at 1 (input_words l.fn.text))
    × (l.place + length (input_words l.rest) ≡ 1 + length (input_words l.fn.text))

abbrev pub decreases-words : goal.decreases-words
decreases-words l = length l.rest
