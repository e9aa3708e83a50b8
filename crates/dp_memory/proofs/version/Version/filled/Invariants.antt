use Rattle.std.proofs.Common.{◌≡◌, ◌-◌}
use Rattle.dp_memory.specs.Pieces.{filled}
use Rattle.dp_memory.proofs.version.Version.filled.Given as goal

abbrev pub invariant-loop-place : goal.invariant-loop-place
invariant-loop-place l = l.version ≡ filled l.fn.self l.fn.first.0 (l.place - l.fn.first.0) l.fn.value
