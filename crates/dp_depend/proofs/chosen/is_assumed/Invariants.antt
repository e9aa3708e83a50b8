use Rattle.std.proofs.Common.{◌≡◌, drop, map}
use Rattle.dp_plan.specs.Written as written
use Rattle.dp_plan.specs.Rules.{assumed_site}
use Rattle.dp_depend.proofs.chosen.is_assumed.Given as goal

abbrev pub invariant-loop-outcome : goal.invariant-loop-outcome
invariant-loop-outcome l = written.has l.site.0 (map assumed_site (drop l.outcome-index l.chosen)) ≡ written.has l.site.0 (map assumed_site l.chosen)
