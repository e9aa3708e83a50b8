use Rattle.std.proofs.Common.{◌≡◌, ◌++◌, drop}
use Rattle.dp_text.specs.Labels.{spaced}
use Rattle.dp_save.proofs.write.put_numbers.Given as goal

abbrev pub invariant-loop-number : goal.invariant-loop-number
invariant-loop-number l = l.out ++ spaced (drop l.number-index l.numbers) ≡ l.initial.out ++ spaced l.numbers
