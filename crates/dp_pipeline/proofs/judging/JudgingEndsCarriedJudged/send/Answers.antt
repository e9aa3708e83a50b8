use denote.Param.Send.{sendable}
use Rattle.dp_pipeline.proofs.Crossing.{judged_send}
use Rattle.dp_pipeline.proofs.judging.JudgingEndsCarriedJudged.send.Goals as goal

pub send-requires-send-T : goal.send-requires-send-T
send-requires-send-T g c κs within = search (judged_send, sendable) depth 60 fits 20000
