use Rattle.std.proofs.Common.{◌≡◌, drop}
use Rattle.dp_lean_kinds.specs.steps.Read.{has_number}
use Rattle.dp_lean_kinds.proofs.stage_kinds.Keeping.is_needed.Given as goal

abbrev pub invariant-loop-read : goal.invariant-loop-read
invariant-loop-read l = has_number l.site.0 (drop l.read-index l.self.reads.now) ≡ has_number l.site.0 l.self.reads.now
