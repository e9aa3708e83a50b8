use denote.Param.Send.{sendable}
use Rattle.dp_pipeline.proofs.Crossing.{spare_send}
use Rattle.dp_pipeline.proofs.Supplied.{sent_back}
use Rattle.dp_pipeline.proofs.spare.Back.send.Goals as goal

pub send-requires-send-T : goal.send-requires-send-T
send-requires-send-T g c κs within = search (spare_send, sendable) depth 60 fits 20000

pub returns : goal.returns
returns g c = λ key at. sent_back c.send.result c.args.self.now.end c.send.new.self c.args.spare c.send.ensures.sent c.send.ensures.kept key at
