use Rattle.std.proofs.Common.{◌≡◌, ◌++◌, drop, map}
use Rattle.dp_plan.specs.Rules as rules
use Rattle.dp_plan_text.proofs.rules.assumptions.assumed_sites.Given as goal

abbrev pub invariant-loop-assumption : goal.invariant-loop-assumption
invariant-loop-assumption l = l.sites ++ map rules.assumed_site (drop l.assumption-index l.all) ≡ map rules.assumed_site l.all
