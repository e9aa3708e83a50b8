use Rattle.std.proofs.Common.{◌-◌}
use Rattle.dp_auditor.proofs.PlainLemmas.{PartSoFar}
use Rattle.dp_auditor.proofs.parts.pass_plain.Given as goal

abbrev pub invariant-calls : goal.invariant-calls
invariant-calls l = PartSoFar l.fn.machine l.machine

abbrev pub decreases-calls : goal.decreases-calls
decreases-calls l = l.machine.fuel - l.machine.steps
