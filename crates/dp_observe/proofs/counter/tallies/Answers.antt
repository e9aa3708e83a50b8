use Rattle.std.proofs.Common.{arith}
use Rattle.dp_observe.specs.steps.Frames.{blank}
use Rattle.dp_observe.proofs.ListLemmas.{pushed_same}
use Rattle.dp_observe.proofs.counter.tallies.Goals as goal

pub loop-site-preserved : goal.loop-site-preserved
loop-site-preserved c =
    let test = c.loop-site-test.true in
    pushed_same blank c.args.sites.now c.loop-site._site-index c.loop-site.all c.push.new.self c.new.result _ (omega arith) c.in_ok-push.ensures.ok
    c.new.ensures c.loop-site.invariant
