use Rattle.std.proofs.Common.{arith, false}
use Rattle.dp_run_plan.proofs.Same.{one_more}
use Rattle.dp_run_plan.proofs.making.unchecked.Goals as goal

pub loop-checked-preserved : goal.loop-checked-preserved
loop-checked-preserved c = one_more false false c.args.checked.now c.loop-checked._checked-index c.loop-checked.made c.push.new.self (omega arith)
    c.in_ok-push.ensures.ok c.loop-checked.invariant
