use Rattle.std.proofs.Common.{◌≡◌}
use Rattle.std.specs.Option.{option_copied}
use Rattle.dp_text.specs.Words.{words_behind}
use Rattle.dp_save.specs.steps.LineWords.{each_read, value_of}
use Rattle.dp_save.proofs.LoopLemmas.{behind, length_behind}
use Rattle.dp_save.proofs.line.read_values.Given as goal

abbrev pub invariant-words : goal.invariant-words
invariant-words l = behind l.values (each_read value_of (words_behind (option_copied l.rest))) ≡ each_read value_of (words_behind (option_copied l.fn.text))

abbrev pub decreases-words : goal.decreases-words
decreases-words l = length_behind (option_copied l.rest)
