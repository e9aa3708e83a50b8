use Rattle.std.proofs.Common.{◌≡◌, drop}
use Rattle.dp_lex.specs.Scan.{closing}
use Rattle.dp_lex.proofs.Skipping.{shifted}
use Rattle.dp_lex.proofs.front.closing.Given as goal

abbrev pub invariant-loop-at : goal.invariant-loop-at
invariant-loop-at l = shifted l.at (closing (drop l.at l.z)) ≡ closing l.z
