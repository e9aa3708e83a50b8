use Rattle.std.proofs.Common.{◌<◌, length, sym, ◌∙◌, arith}
use Rattle.std.specs.List.{flat_map}
use Rattle.dp_tree.specs.declared.VarScope.TheVariants.{Outer}
use Rattle.dp_check.specs.Tables.{locals_of, item_parts}
use Rattle.dp_check.specs.steps.Growing.{with_variables}
use Rattle.dp_check.proofs.TableLemmas as tables
use Rattle.dp_check.proofs.variables.Variables.functions.Goals as goal
use Rattle.dp_room.proofs.LoopLemmas.{fold_more, fold_end}

pub loop-item-preserved : goal.loop-item-preserved
loop-item-preserved c =
    let below : c.loop-item.item-index < length c.args.items.now = omega arith in
    fold_more (λ v all. with_variables v (flat_map (λ item. locals_of Outer (item_parts item)) all))
    (λ v item. with_variables v (locals_of Outer (item_parts item))) (tables.flat_more (λ item. locals_of Outer (item_parts item))) c.args.items.now
    c.loop-item.item-index c.loop-item.self _ c.loop-item.invariant c.item-item.result below c.item-item.is c.function.new.self c.in_ok-function.ensures

pub returns : goal.returns
returns c =
    sym (fold_end (λ v all. with_variables v (flat_map (λ item. locals_of Outer (item_parts item)) all))
    (λ v item. with_variables v (locals_of Outer (item_parts item))) (tables.flat_more (λ item. locals_of Outer (item_parts item))) c.args.items.now
    c.loop-item.item-index c.loop-item.self _ c.loop-item.invariant (omega arith) ∙ tables.with_variables-none c.loop-item.self)
