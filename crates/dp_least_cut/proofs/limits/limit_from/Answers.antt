use Rattle.std.proofs.Common.{◌<◌, length, arith}
use Rattle.dp_least_cut.proofs.LimitLemmas.{low_more, high_more}
use Rattle.dp_least_cut.proofs.limits.limit_from.Goals as goal

pub loop-from-preserved : goal.loop-from-preserved
loop-from-preserved c =
    let h : c.loop-from.from-index < length c.args.carried.now = omega arith in
    record {
      low = low_more c.args.carried.now c.args.begin c.args.count c.loop-from.limit c.lesser_limit-limit.result c.loop-from.from-index h
          c.lesser_limit-limit.ensures.least c.lesser_limit-limit.ensures.most c.loop-from.invariant.low c.loop-from.invariant.high;
      high = high_more c.args.carried.now c.args.begin c.args.count c.loop-from.limit c.lesser_limit-limit.result c.loop-from.from-index h
          c.lesser_limit-limit.ensures.least c.lesser_limit-limit.ensures.most c.loop-from.invariant.low c.loop-from.invariant.high;
    }

pub returns : goal.returns
returns c end h = (
  λ clear. c.loop-from.invariant.high end h (λ k d below. clear k d (omega arith)),
  λ low k d below. (c.loop-from.invariant.low end low).1 k d (omega arith),
)
