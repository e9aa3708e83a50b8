use Rattle.std.proofs.Common.{◌≡◌, drop, filter, map}
use Rattle.dp_plan.specs.Rules as rules
use Rattle.dp_plan_text.specs.steps.Tables as tables
use Rattle.dp_plan_text.proofs.rules.assumptions.late_if.Given as goal

abbrev pub invariant-loop-condition : goal.invariant-loop-condition
invariant-loop-condition l =
    tables.lesser_of l.found (rules.least (map rules.site_of_condition (filter (tables.is_late_outside l.w l.assumed) (drop l.condition-index l.ifs))))
    ≡ rules.least (map rules.site_of_condition (filter (tables.is_late_outside l.w l.assumed) l.ifs))
