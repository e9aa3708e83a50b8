use denote.Param.Send.{sendable}
use Rattle.dp_pipeline.proofs.Crossing.{carried_send}
use Rattle.dp_pipeline.proofs.Ticketed.{may_give}
use Rattle.dp_pipeline.proofs.tickets.TicketsEndsCarriedCarried.send.Goals as goal

pub give-requires-send-T : goal.give-requires-send-T
give-requires-send-T g c κs within = search (carried_send, sendable) depth 60 fits 20000

pub give-requires-clause-item : goal.give-requires-clause-item
give-requires-clause-item g c κs within =
    let r = c.requires in (may_give c.args.self.now c.args.item r.0 r.1 r.2 r.3 r.4 r.5).1
