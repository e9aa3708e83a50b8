use Rattle.std.proofs.Common.{◌≡◌, ◌++◌, drop}
use Rattle.dp_report.specs.CauseText.{causes_bytes}
use Rattle.dp_report.proofs.causes.put_causes.Given as goal

abbrev pub invariant-loop-place : goal.invariant-loop-place
invariant-loop-place l = l.out ++ causes_bytes (drop l.place l.iterations) (drop l.place l.causes) ≡ l.initial.out ++ causes_bytes l.iterations l.causes
