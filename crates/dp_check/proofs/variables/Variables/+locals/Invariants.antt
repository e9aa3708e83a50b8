use Rattle.std.proofs.Common.{◌≡◌, drop}
use Rattle.dp_check.specs.Place.{parts_all}
use Rattle.dp_check.specs.Tables.{locals_of}
use Rattle.dp_check.specs.steps.Growing.{with_variables}
use Rattle.dp_check.proofs.variables.Variables.+locals.Given as goal

abbrev pub invariant-locals-loop-s : goal.invariant-locals-loop-s
invariant-locals-loop-s l =
    with_variables l.fn.self (locals_of l.scope (parts_all l.all)) ≡ with_variables l.self (locals_of l.scope (parts_all (drop l.s-index l.all)))
