use Rattle.std.proofs.Common.{◌≡◌, ◌++◌, drop, map}
use Rattle.dp_plan.specs.Rules.{site_of_condition}
use Rattle.dp_plan_text.proofs.conditions.condition_sites.Given as goal

abbrev pub invariant-loop-condition : goal.invariant-loop-condition
invariant-loop-condition l = l.sites ++ map site_of_condition (drop l.condition-index l.all) ≡ map site_of_condition l.all
