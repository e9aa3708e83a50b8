use Rattle.std.proofs.Common.{◌≡◌, ◌+◌, drop}
use Rattle.dp_sites.specs.Storings.{goes_up_from}
use Rattle.dp_sites.proofs.table.goes_up.Given as goal

abbrev pub invariant-loop-place : goal.invariant-loop-place
invariant-loop-place l = goes_up_from (l.first + l.place) (drop l.place l.parts) ≡ goes_up_from l.first l.parts
