use denote.Param.Send.{sendable}
use Rattle.dp_pipeline.proofs.Crossing.{carried_send}
use Rattle.dp_pipeline.proofs.tickets.Tickets.draw.Goals as goal

pub draw-requires-send-T : goal.draw-requires-send-T
draw-requires-send-T c κs within = search (carried_send, sendable) depth 60 fits 20000
