use Rattle.std.proofs.Common.{◌≡◌, ◌++◌, drop}
use Rattle.std.specs.List.{flat_map}
use Rattle.dp_log.specs.LogText.{set_line}
use Rattle.dp_log.proofs.text.put_sets.Given as goal

abbrev pub invariant-loop-set : goal.invariant-loop-set
invariant-loop-set l = l.out ++ flat_map set_line (drop l.set-index l.sets) ≡ l.initial.out ++ flat_map set_line l.sets
