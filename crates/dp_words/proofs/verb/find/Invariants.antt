use Rattle.std.proofs.Common.{◌≡◌, length}
use Rattle.dp_words.specs.steps.Table.{AreTrue, line_with}
use Rattle.dp_words.proofs.verb.find.Given as goal

abbrev pub invariant-loop-table : goal.invariant-loop-table
invariant-loop-table l = record { same : line_with l.table l.word ≡ line_with l.initial.table l.word; lines : AreTrue l.table }

abbrev pub decreases-loop-table : goal.decreases-loop-table
decreases-loop-table l = length l.table
