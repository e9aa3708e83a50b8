use Rattle.std.proofs.Common.{arith}
use Rattle.dp_run_plan.proofs.Same.{one_more}
use Rattle.dp_run_plan.proofs.making.first_stages.Goals as goal

pub loop-stage-preserved : goal.loop-stage-preserved
loop-stage-preserved c =
    one_more 1 0 c.args.stages.now c.loop-stage._stage-index c.loop-stage.made c.push.new.self (omega arith) c.in_ok-push.ensures.ok c.loop-stage.invariant
