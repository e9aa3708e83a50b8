use Rattle.std.proofs.Common.{◌≡◌, ◌++◌, drop}
use Rattle.std.specs.List.{filter_map}
use Rattle.dp_plan.specs.Written as written
use Rattle.dp_plan_text.proofs.read.assumptions_at.Given as goal

abbrev pub invariant-loop-site : goal.invariant-loop-site
invariant-loop-site l = l.assume ++ filter_map (written.assumption_at l.all) (drop l.site-index l.sites) ≡ filter_map (written.assumption_at l.all) l.sites
