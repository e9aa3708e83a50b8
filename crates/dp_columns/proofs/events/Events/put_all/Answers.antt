use Rattle.std.proofs.Common.{map}
use Rattle.std.proofs.lemmas.Result.{on_ok_weaker}
use Rattle.dp_columns.specs.Paired.{pair_load}
use Rattle.dp_columns.proofs.EventLists.{pairs_put}
use Rattle.dp_columns.proofs.events.Events.put_all.Goals as goal

pub returns-clause-ok : goal.returns-clause-ok
returns-clause-ok c =
    let e = c.self.inside in
    on_ok_weaker c.put_all.result (pairs_put e.counts e.settled e.pairs c.args.self.now c.self.view_is c.self.invariant c.put_all.new.self
    (map pair_load c.args.pairs.now)) c.put_all.ensures.ok

pub returns-clause-more : goal.returns-clause-more
returns-clause-more c =
    let e = c.self.inside in
    let put = c.put_all.ensures.more in
    (put.0, pairs_put e.counts e.settled e.pairs c.args.self.now c.self.view_is c.self.invariant c.put_all.new.self put.0 put.1)
