use Rattle.std.proofs.Common.{◌≡◌, ◌++◌, drop}
use Rattle.dp_save.specs.WrittenText.{values_text}
use Rattle.dp_save.proofs.write.put_values.Given as goal

abbrev pub invariant-loop-value : goal.invariant-loop-value
invariant-loop-value l = l.out ++ values_text (drop l.value-index l.values) ≡ l.initial.out ++ values_text l.values
