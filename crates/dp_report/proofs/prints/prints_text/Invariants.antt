use Rattle.std.proofs.Common.{◌≡◌, ◌++◌, drop}
use Rattle.dp_report.specs.PrintsText.{prints_bytes}
use Rattle.dp_report.proofs.prints.prints_text.Given as goal

abbrev pub invariant-loop-n : goal.invariant-loop-n
invariant-loop-n l = l.out ++ prints_bytes (drop l.n-index l.prints) ≡ prints_bytes l.prints
