use Rattle.std.proofs.Common.{◌≡◌, ◌++◌, drop, map}
use Rattle.dp_plan.specs.Written as written
use Rattle.dp_plan_text.proofs.read.kinds.Given as goal

abbrev pub invariant-loop-line : goal.invariant-loop-line
invariant-loop-line l = l.kinds ++ map written.kind_in (drop l.line-index l.lines) ≡ map written.kind_in l.lines
