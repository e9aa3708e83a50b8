use Rattle.std.proofs.Common.{◌≡◌, ◌+◌, length, drop}
use Rattle.dp_check.specs.Tables.{globals}
use Rattle.dp_check.proofs.limits.global_count.Given as goal

abbrev pub invariant-loop-item : goal.invariant-loop-item
invariant-loop-item l = length (globals l.items) ≡ l.count + length (globals (drop l.item-index l.items))
