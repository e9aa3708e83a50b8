use Rattle.std.proofs.Common.{◌≡◌, ◌<◌, ◌-◌, ◌++◌}
use Rattle.dp_report.specs.Generator.{words_after}
use Rattle.dp_report.proofs.generator.made_words.Given as goal

abbrev pub invariant-loop : goal.invariant-loop
invariant-loop l = (l.number < 2147483648) × (l.words ++ words_after l.number (l.size - l.counter) ≡ words_after l.seed l.size)
