use Rattle.std.proofs.Common.{◌≡◌, replicate}
use Rattle.dp_columns.specs.Held.{no_events}
use Rattle.dp_columns.proofs.columns.empty_events.Given as goal

abbrev pub invariant-loop-place : goal.invariant-loop-place
invariant-loop-place l = l.loads ≡ replicate l._place no_events
