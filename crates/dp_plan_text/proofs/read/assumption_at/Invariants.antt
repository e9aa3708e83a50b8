use Rattle.std.proofs.Common.{◌≡◌, drop}
use Rattle.dp_plan.specs.Written as written
use Rattle.dp_plan_text.proofs.read.assumption_at.Given as goal

abbrev pub invariant-loop-assumption : goal.invariant-loop-assumption
invariant-loop-assumption l = written.assumption_at (drop l.assumption-index l.all) l.site ≡ written.assumption_at l.all l.site
