use Rattle.std.proofs.Common.{◌≡◌, drop}
use Rattle.std.specs.List.{flat_map}
use Rattle.dp_tree.specs.declared.VarScope.TheVariants.{Outer}
use Rattle.dp_check.specs.Tables.{locals_of, item_parts}
use Rattle.dp_check.specs.steps.Growing.{with_variables}
use Rattle.dp_check.proofs.variables.Variables.functions.Given as goal

abbrev pub invariant-loop-item : goal.invariant-loop-item
invariant-loop-item l = with_variables l.fn.self (flat_map (λ item. locals_of Outer (item_parts item)) l.items) ≡ with_variables l.self
    (flat_map (λ item. locals_of Outer (item_parts item)) (drop l.item-index l.items))
