use Rattle.std.proofs.Common.{rules}
use Rattle.dp_relay.proofs.Turned.{none_held, has_run}
use Rattle.dp_relay.proofs.advance.next.Goals as goal

pub returns-in-Ok-clause-made : goal.returns-in-Ok-clause-made
returns-in-Ok-clause-made g c =
    let ready = g.E.Ends.ready in let holds = g.E.Ends.holds in let taking = g.E.Ends.taking in let sending = g.E.Ends.sending in let ended = g.E.Ends.ended in
    let stands = g.S.Stage.stands in let taken = g.I.Item.is_sent in let sent = g.O.Item.is_sent in let last = g.O.Item.is_last in
    let all = none_held ready holds taking sending ended stands taken sent last c.args.stage.now c.args.ends.now c.args.held.now (search rules) c.requires in
    has_run ready holds taking sending ended stands taken sent last c.args.stage.now c.run.new.self c.args.ends.now c.take-in-None.new.self
    c.in-Ok.item c.run.result all
    c.in-Ok.ensures.took c.run.ensures c.in-Ok.ensures.taking c.in-Ok.ensures.sending c.in-Ok.ensures.ended
