use Rattle.std.proofs.Common.{drop}
use Rattle.dp_auditor.proofs.PartsLemmas.{Joined}
use Rattle.dp_auditor.proofs.parts.compare_parts.Given as goal

abbrev pub invariant-loop-plan : goal.invariant-loop-plan
invariant-loop-plan l = Joined l.program l.plans (drop l.plan-index l.plans) l.fn.machine l.machine l.fn.compared l.compared
