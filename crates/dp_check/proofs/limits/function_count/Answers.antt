use Rattle.std.proofs.Common.{◌+◌, ◌<◌, min, length, ap, ◌∙◌, arith}
use Rattle.dp_check.specs.Limits.{functions_in, function_count}
use Rattle.dp_check.proofs.LimitLemmas as limits
use Rattle.dp_check.proofs.limits.function_count.Goals as goal
use Rattle.dp_room.proofs.LoopLemmas.{fold_more, fold_end}

pub loop-item-preserved : goal.loop-item-preserved
loop-item-preserved c =
    let below : c.loop-item.item-index < length c.args.items.now = omega arith in (
      omega arith,
      fold_more (λ n all. min (n + function_count all) 1000000) (λ n x. min (n + functions_in x) 1000000) limits.functions_more c.args.items.now
          c.loop-item.item-index c.loop-item.count _ c.loop-item.invariant.1 c.item-item.result below c.item-item.is c.counted_sum-count.result
          (c.counted_sum-count.ensures ∙ ap (λ k. min (c.loop-item.count + k) 1000000) c.functions_in.ensures.value),
    )

pub returns : goal.returns
returns c =
    let e = fold_end (λ n all. min (n + function_count all) 1000000) (λ n x. min (n + functions_in x) 1000000) limits.functions_more c.args.items.now
    c.loop-item.item-index c.loop-item.count _ c.loop-item.invariant.1 (omega arith) in
    omega arith
