use Rattle.std.proofs.Common.{◌≡◌, ◌++◌, drop}
use Rattle.dp_report.specs.Lines.{spaced_signed}
use Rattle.dp_report.proofs.decimal.put_spaced_signed.Given as goal

abbrev pub invariant-loop-n : goal.invariant-loop-n
invariant-loop-n l = l.out ++ spaced_signed (drop l.n-index l.numbers) ≡ l.initial.out ++ spaced_signed l.numbers
