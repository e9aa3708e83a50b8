use Rattle.std.proofs.Common.{◌≡◌, drop}
use Rattle.dp_plan.specs.Valid as spec
use Rattle.dp_plan_text.proofs.rules.first_fault.Given as goal

abbrev pub invariant-loop-written : goal.invariant-loop-written
invariant-loop-written l = spec.first_fault l.p (drop l.written-index l.all) ≡ spec.first_fault l.p l.all
