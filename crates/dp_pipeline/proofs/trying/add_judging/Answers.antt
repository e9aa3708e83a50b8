use denote.Param.Send.{sendable}
use Rattle.dp_pipeline.proofs.Crossing.{judged_send}
use Rattle.dp_pipeline.proofs.trying.add_judging.Goals as goal

pub lane-requires-send-T : goal.lane-requires-send-T
lane-requires-send-T c κs within = search (judged_send, sendable) depth 60 fits 20000
