use Rattle.std.proofs.Common.{◌≡◌, length}
use Rattle.dp_columns.specs.Held.{IsNone, FrontIs}
use Rattle.dp_columns.proofs.columns.clear_events.Given as goal

abbrev pub invariant-loop-place : goal.invariant-loop-place
invariant-loop-place l = (length l.loads ≡ length l.fn.loads) × FrontIs IsNone l.place l.loads
