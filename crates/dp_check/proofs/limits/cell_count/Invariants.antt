use Rattle.std.proofs.Common.{◌≡◌, ◌+◌, ◌≤◌, min, drop}
use Rattle.dp_base.specs.Counts.{reported_count}
use Rattle.dp_check.specs.Limits.{global_cells}
use Rattle.dp_check.proofs.limits.cell_count.Given as goal

abbrev pub invariant-loop-item : goal.invariant-loop-item
invariant-loop-item l = (l.count ≤ 1000000) × (reported_count (global_cells l.items) ≡ min (l.count + global_cells (drop l.item-index l.items)) 1000000)
