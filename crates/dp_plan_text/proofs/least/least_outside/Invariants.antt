use Rattle.std.proofs.Common.{◌≡◌, drop, filter}
use Rattle.dp_plan.specs.Rules as rules
use Rattle.dp_plan_text.specs.steps.Tables as tables
use Rattle.dp_plan_text.proofs.least.least_outside.Given as goal

abbrev pub invariant-loop-number : goal.invariant-loop-number
invariant-loop-number l =
    tables.lesser_of l.found (rules.least (filter (tables.is_outside l.ascending) (drop l.number-index l.numbers)))
    ≡ rules.least (filter (tables.is_outside l.ascending) l.numbers)
