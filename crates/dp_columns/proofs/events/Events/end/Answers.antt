use Rattle.dp_columns.proofs.EventLists.{event_ended}
use Rattle.dp_columns.proofs.events.Events.end.Goals as goal

pub returns-clause-ok : goal.returns-clause-ok
returns-clause-ok c =
    let e = c.self.inside in
    event_ended e.counts e.settled e.pairs c.args.self.now c.self.view_is c.self.invariant c.len-len.result c.push.new.self c.len-len.ensures
    c.in_ok-push.ensures.ok
