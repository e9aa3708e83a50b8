use Rattle.std.proofs.Common.{◌≡◌, drop}
use Rattle.dp_check.specs.Tables.{globals}
use Rattle.dp_check.specs.steps.Growing.{with_variables}
use Rattle.dp_check.proofs.variables.Variables.globals.Given as goal

abbrev pub invariant-loop-item : goal.invariant-loop-item
invariant-loop-item l = with_variables l.fn.self (globals l.items) ≡ with_variables l.self (globals (drop l.item-index l.items))
