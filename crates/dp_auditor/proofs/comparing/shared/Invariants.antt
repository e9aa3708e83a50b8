use Rattle.std.proofs.Common.{◌≡◌, ◌+◌, drop}
use Rattle.dp_auditor.specs.Comparing.{shared}
use Rattle.dp_auditor.proofs.comparing.shared.Given as goal

abbrev pub invariant-loop-place : goal.invariant-loop-place
invariant-loop-place l = l.place + shared (drop l.place l.one) (drop l.place l.other) ≡ shared l.one l.other
