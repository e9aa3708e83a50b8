-- The run of the made program: its input, and the line in front of its text.
use Rattle.std.specs.Prelude.{ℕ, List, ◌++◌, ℤ, codes, decimal}
use Rattle.dp_report.specs.Generator.{words_after}
use Rattle.dp_words.specs.declared.task.GenWords.{GenWords}

-- the words of its input
abbrev pub made_words : GenWords → List ℤ
made_words made = words_after made.seed made.size

-- the verb, the seed and the size
abbrev pub made_line : GenWords → List ℕ
made_line made = codes "gen " ++ (decimal made.seed ++ (codes " " ++ (decimal made.size ++ codes "\n")))
