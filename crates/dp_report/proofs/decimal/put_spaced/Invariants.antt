use Rattle.std.proofs.Common.{◌≡◌, ◌++◌, drop}
use Rattle.dp_text.specs.Labels.{spaced}
use Rattle.dp_report.proofs.decimal.put_spaced.Given as goal

abbrev pub invariant-loop-n : goal.invariant-loop-n
invariant-loop-n l = l.out ++ spaced (drop l.n-index l.numbers) ≡ l.initial.out ++ spaced l.numbers
