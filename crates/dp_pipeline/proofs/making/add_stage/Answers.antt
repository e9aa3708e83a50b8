use denote.Param.Send.{sendable}
use Rattle.dp_pipeline.proofs.Crossing.{carried_send}
use Rattle.dp_pipeline.proofs.making.add_stage.Goals as goal

pub lane-requires-send-T : goal.lane-requires-send-T
lane-requires-send-T c κs within = search (carried_send, sendable) depth 60 fits 20000

pub add_unit-requires-clause-stage : goal.add_unit-requires-clause-stage
add_unit-requires-clause-stage c = (c.requires.setting.numbered, c.requires.within)
