use Rattle.std.proofs.Common.{◌≡◌, drop, filter, map}
use Rattle.dp_plan.specs.Rules as rules
use Rattle.dp_plan_text.specs.steps.Tables as tables
use Rattle.dp_plan_text.proofs.rules.assumptions.late_while.Given as goal

abbrev pub invariant-loop-condition : goal.invariant-loop-condition
invariant-loop-condition l =
    tables.lesser_of l.found (rules.least (map rules.site_of_condition (filter (rules.comes_late l.w) (drop l.condition-index l.whiles))))
    ≡ rules.least (map rules.site_of_condition (filter (rules.comes_late l.w) l.whiles))
