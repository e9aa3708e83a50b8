use Rattle.std.proofs.Common.{◌≡◌, replicate}
use Rattle.dp_columns.proofs.MarkLists.{at_start}
use Rattle.dp_columns.proofs.reader.begin.Given as goal

abbrev pub invariant-loop-place : goal.invariant-loop-place
invariant-loop-place l = l.marks ≡ replicate l._place at_start
