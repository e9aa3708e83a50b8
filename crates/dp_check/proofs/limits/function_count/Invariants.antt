use Rattle.std.proofs.Common.{◌≡◌, ◌+◌, ◌≤◌, min, drop}
use Rattle.dp_base.specs.Counts.{reported_count}
use Rattle.dp_check.specs.Limits.{function_count}
use Rattle.dp_check.proofs.limits.function_count.Given as goal

abbrev pub invariant-loop-item : goal.invariant-loop-item
invariant-loop-item l = (l.count ≤ 1000000) × (reported_count (function_count l.items) ≡ min (l.count + function_count (drop l.item-index l.items)) 1000000)
