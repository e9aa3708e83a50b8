use Rattle.std.proofs.Common.{◌≡◌, ◌+◌, length}
use Rattle.dp_plan.specs.Each.{Each}
use Rattle.dp_pipeline.specs.Seats.{IsUnused}
use Rattle.dp_pipeline.proofs.staffing.add_workers.Given as goal

abbrev pub invariant-loop-at : goal.invariant-loop-at
invariant-loop-at l =
    Each (IsUnused l.setting.key) l.seats × (l.setter ≡ l.fn.setter) × (length l.units + length l.seats ≡ length l.fn.units + length l.fn.seats)

abbrev pub decreases-loop-at : goal.decreases-loop-at
decreases-loop-at l = length l.seats
