use Rattle.std.proofs.Common.{arith}
use Rattle.dp_tree.specs.Trace.{prints}
use Rattle.dp_epoch.proofs.HearingLemmas.{hears_step}
use Rattle.dp_epoch.proofs.RemadeLemmas.{recovers_for}
use Rattle.dp_epoch.proofs.watching.watch_step.Goals as goal

pub returns-clause-ok : goal.returns-clause-ok
returns-clause-ok c =
    let q = c.in_ok-end.ensures.runs in (
      prints q.call.events,
      recovers_for 1 c.args.committed.now c.watch.new.self c.args.waiting.now c.watch.new.out c.in_ok-end.end (omega arith) q,
      q.call.moved.prints,
    )

pub returns-clause-heard : goal.returns-clause-heard
returns-clause-heard c = hears_step c.args.committed.now.machine c.watch.new.self.machine c.in_ok-end.seen c.watch.new.loads.cells c.args.views.now
    c.see.new.views c.in_ok-end.ensures.told c.in_ok-see.ensures
