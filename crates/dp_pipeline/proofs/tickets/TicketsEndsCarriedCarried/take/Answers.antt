use denote.Param.Send.{sendable}
use Rattle.dp_pipeline.proofs.Crossing.{carried_send}
use Rattle.dp_pipeline.proofs.Ticketed.{with_ticket, has_taken, take_waits}
use Rattle.dp_pipeline.proofs.tickets.TicketsEndsCarriedCarried.take.Goals as goal

pub take-requires-clause-taking : goal.take-requires-clause-taking
take-requires-clause-taking g c κs within =
    let may = c.draw.ensures.ready c.requires.0 c.requires.1 c.requires.2 c.requires.3 in
    (with_ticket c.draw.new.self.has_ticket c.draw.new.self.seat.view c.requires.0.epoch.fuel c.draw.ensures.ticket may.free).0

pub returns-in-Ok-clause-took : goal.returns-in-Ok-clause-took
returns-in-Ok-clause-took g c =
    λ key s place may. has_taken c.draw.new.self c.take.new.self c.in-Ok.item c.draw.ensures.ticket c.in-Ok.ensures.took.0 c.in-Ok.ensures.took.1
    key s place (c.draw.ensures.ready key s place may)

pub returns-in-Err-clause-idle : goal.returns-in-Err-clause-idle
returns-in-Err-clause-idle g c =
    λ key s place may. take_waits c.draw.new.self c.take.new.self c.in-Err.field-0.word c.in-Err.ensures.busy key s place (c.draw.ensures.ready key s place may)

pub take-requires-send-T : goal.take-requires-send-T
take-requires-send-T g c κs within = search (carried_send, sendable) depth 60 fits 20000
