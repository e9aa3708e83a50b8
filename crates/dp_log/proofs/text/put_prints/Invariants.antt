use Rattle.std.proofs.Common.{◌≡◌, ◌++◌, drop}
use Rattle.std.specs.List.{flat_map}
use Rattle.dp_log.specs.LogText.{logged_print}
use Rattle.dp_log.proofs.text.put_prints.Given as goal

abbrev pub invariant-loop-value : goal.invariant-loop-value
invariant-loop-value l = l.out ++ flat_map logged_print (drop l.value-index l.prints) ≡ l.initial.out ++ flat_map logged_print l.prints
