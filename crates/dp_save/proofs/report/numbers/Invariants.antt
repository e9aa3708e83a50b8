use Rattle.std.proofs.Common.{◌≡◌}
use Rattle.std.specs.Option.{option_copied}
use Rattle.dp_text.specs.Words.{words_behind}
use Rattle.dp_save.specs.steps.LineWords.{count, each_read}
use Rattle.dp_save.proofs.LoopLemmas.{behind, length_behind}
use Rattle.dp_save.proofs.report.numbers.Given as goal

abbrev pub invariant-words : goal.invariant-words
invariant-words l = behind l.numbers (each_read count (words_behind (option_copied l.rest))) ≡ each_read count (words_behind (option_copied l.fn.text))

abbrev pub decreases-words : goal.decreases-words
decreases-words l = length_behind (option_copied l.rest)
