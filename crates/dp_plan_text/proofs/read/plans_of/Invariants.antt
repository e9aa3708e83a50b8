use Rattle.std.proofs.Common.{◌≡◌, ◌++◌, drop, map}
use Rattle.dp_plan.specs.Written as written
use Rattle.dp_plan_text.proofs.read.plans_of.Given as goal

abbrev pub invariant-loop-written : goal.invariant-loop-written
invariant-loop-written l = l.plans ++ map (written.plan_of l.p l.proved) (drop l.written-index l.all) ≡ map (written.plan_of l.p l.proved) l.all
