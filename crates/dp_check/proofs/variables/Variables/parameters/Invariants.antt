use Rattle.std.proofs.Common.{◌≡◌, drop, map}
use Rattle.dp_tree.specs.declared.VarScope.TheVariants.{Outer}
use Rattle.dp_check.specs.Place.{Local}
use Rattle.dp_check.specs.Tables.{locals_of}
use Rattle.dp_check.specs.steps.Growing.{with_variables}
use Rattle.dp_check.proofs.variables.Variables.parameters.Given as goal

abbrev pub invariant-loop-name : goal.invariant-loop-name
invariant-loop-name l =
    with_variables l.fn.self (locals_of Outer (map Local l.all)) ≡ with_variables l.self (locals_of Outer (map Local (drop l.name-index l.all)))
