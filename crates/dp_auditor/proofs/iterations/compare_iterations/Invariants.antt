use Rattle.std.proofs.Common.{◌-◌}
use Rattle.dp_auditor.proofs.ReachedLemmas.{Reached}
use Rattle.dp_auditor.proofs.iterations.compare_iterations.Given as goal

abbrev pub invariant-iterations : goal.invariant-iterations
invariant-iterations l = Reached l.program l.plan l.fn.ahead l.ahead l.behind l.views l.fn.compared l.compared l.iteration

abbrev pub decreases-iterations : goal.decreases-iterations
decreases-iterations l = l.ahead.fuel - l.ahead.steps
