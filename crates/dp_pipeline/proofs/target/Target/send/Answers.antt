use denote.Param.Send.{sendable}
use Rattle.dp_pipeline.proofs.Crossing.{carried_send}
use Rattle.std.proofs.Common.{subst}
use Rattle.dp_pipeline.specs.declared.target.Target.{Target}
use Rattle.dp_pipeline.specs.Standing.{Gets}
use Rattle.dp_pipeline.proofs.Seated.{may_put}
use Rattle.dp_pipeline.proofs.Coming.{may_send}
use Rattle.dp_pipeline.proofs.target.Target.send.Goals as goal

pub put-requires-clause-few : goal.put-requires-clause-few
put-requires-clause-few g c κs within =
    let r = c.requires in
    (may_put c.in-Ring.seat c.args.item r.0 r.1 r.2 (subst (λ (t : Target). Gets t r.0 r.1 r.2) c.in-Ring.is r.3) r.4).1

pub put-requires-clause-item : goal.put-requires-clause-item
put-requires-clause-item g c κs within =
    let r = c.requires in
    (may_put c.in-Ring.seat c.args.item r.0 r.1 r.2 (subst (λ (t : Target). Gets t r.0 r.1 r.2) c.in-Ring.is r.3) r.4).0

pub send-requires-send-T : goal.send-requires-send-T
send-requires-send-T g c κs within = search (carried_send, sendable) depth 60 fits 20000

pub put-requires-send-T : goal.put-requires-send-T
put-requires-send-T g c κs within = search (carried_send, sendable) depth 60 fits 20000

pub send-requires-after_bounds : goal.send-requires-after_bounds
send-requires-after_bounds g c κs within =
    let r = c.requires in
    may_send c.in-Lane.end.view c.args.item r.0 r.1 r.2 (subst (λ (t : Target). Gets t r.0 r.1 r.2) c.in-Lane.is r.3) r.4
