use Rattle.std.proofs.Common.{◌<◌, length, sym, ◌∙◌, arith}
use Rattle.dp_check.specs.Tables.{globals, global_of}
use Rattle.dp_check.specs.steps.Growing.{with_variables}
use Rattle.dp_check.proofs.TableLemmas as tables
use Rattle.dp_check.proofs.variables.Variables.globals.Goals as goal
use Rattle.dp_room.proofs.LoopLemmas.{fold_more, fold_end}

pub loop-item-preserved : goal.loop-item-preserved
loop-item-preserved c =
    let below : c.loop-item.item-index < length c.args.items.now = omega arith in
    fold_more (λ v all. with_variables v (globals all)) (λ v x. with_variables v (global_of x)) (tables.flat_more global_of) c.args.items.now
    c.loop-item.item-index c.loop-item.self _ c.loop-item.invariant c.item-item.result below c.item-item.is c.global.new.self c.in_ok-global.ensures

pub returns : goal.returns
returns c =
    sym (fold_end (λ v all. with_variables v (globals all)) (λ v x. with_variables v (global_of x)) (tables.flat_more global_of) c.args.items.now
    c.loop-item.item-index c.loop-item.self _ c.loop-item.invariant (omega arith) ∙ tables.with_variables-none c.loop-item.self)
