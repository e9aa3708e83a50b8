use Rattle.std.proofs.Common.{◌≡◌, drop}
use Rattle.dp_save.specs.steps.LineWords.{ascends}
use Rattle.dp_save.proofs.report.ascend.Given as goal

abbrev pub invariant-loop-number : goal.invariant-loop-number
invariant-loop-number l = ascends l.low l.high (drop l.number-index l.numbers) ≡ ascends 0 l.high l.numbers
