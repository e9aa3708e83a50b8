use Rattle.std.proofs.Common.{◌+◌, ◌<◌, length, arith}
use Rattle.dp_check.specs.Tables.{globals, global_of}
use Rattle.dp_check.proofs.LimitLemmas as limits
use Rattle.dp_check.proofs.limits.global_count.Goals as goal
use Rattle.dp_room.proofs.LoopLemmas.{fold_more, fold_end}

pub loop-item-preserved : goal.loop-item-preserved
loop-item-preserved c =
    let below : c.loop-item.item-index < length c.args.items.now = omega arith in
    fold_more (λ n all. n + length (globals all)) (λ n x. n + length (global_of x)) limits.globals_more c.args.items.now c.loop-item.item-index
    c.loop-item.count _ c.loop-item.invariant c.item-item.result below c.item-item.is c.in_ok-count.count c.in_ok-count.ensures.value

pub returns : goal.returns
returns c =
    let e = fold_end (λ n all. n + length (globals all)) (λ n x. n + length (global_of x)) limits.globals_more c.args.items.now c.loop-item.item-index
    c.loop-item.count _ c.loop-item.invariant (omega arith) in
    omega arith
