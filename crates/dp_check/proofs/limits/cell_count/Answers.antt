use Rattle.std.proofs.Common.{◌+◌, ◌<◌, min, length, ap, ◌∙◌, arith}
use Rattle.dp_base.specs.Counts.{reported_count}
use Rattle.dp_check.specs.Tables.{global_of}
use Rattle.dp_check.specs.Limits.{cell_sum, global_cells}
use Rattle.dp_check.proofs.LimitLemmas as limits
use Rattle.dp_check.proofs.limits.cell_count.Goals as goal
use Rattle.dp_room.proofs.LoopLemmas.{fold_more, fold_end}

pub loop-item-preserved : goal.loop-item-preserved
loop-item-preserved c =
    let below : c.loop-item.item-index < length c.args.items.now = omega arith in (
      omega arith,
      fold_more (λ n all. min (n + global_cells all) 1000000) (λ n x. min (n + reported_count (cell_sum (global_of x))) 1000000) limits.cells_more
          c.args.items.now c.loop-item.item-index c.loop-item.count _ c.loop-item.invariant.1 c.item-item.result below c.item-item.is c.counted_sum-count.result
          (c.counted_sum-count.ensures ∙ ap (λ k. min (c.loop-item.count + k) 1000000) c.cells_in.ensures.value),
    )

pub returns : goal.returns
returns c =
    let e = fold_end (λ n all. min (n + global_cells all) 1000000) (λ n x. min (n + reported_count (cell_sum (global_of x))) 1000000) limits.cells_more
    c.args.items.now c.loop-item.item-index c.loop-item.count _ c.loop-item.invariant.1 (omega arith) in
    omega arith
