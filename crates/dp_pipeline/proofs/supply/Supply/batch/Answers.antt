use denote.Param.Send.{sendable}
use Rattle.dp_pipeline.proofs.Crossing.{spare_send}
use Rattle.std.proofs.Common.{ap, refl, subst}
use Rattle.dp_lane.specs.Ends.{End}
use Rattle.dp_lean_machine.specs.declared.batch.LeanBatch.{LeanBatch}
use Rattle.dp_lean_machine.specs.Fresh.{IsFresh}
use Rattle.dp_pipeline.specs.declared.keys.LaneKey.{LaneKey}
use Rattle.dp_pipeline.specs.declared.supply.Supply.{Supply}
use Rattle.dp_pipeline.proofs.Supplied.{came_fresh, came_supplies, none_supplied, none_supplies}
use Rattle.dp_pipeline.proofs.supply.Supply.batch.Goals as goal

pub take-requires-send-T : goal.take-requires-send-T
take-requires-send-T g c κs within = search (spare_send, sendable) depth 60 fits 20000

pub returns-in-Some-clause-fresh : goal.returns-in-Some-clause-fresh
returns-in-Some-clause-fresh g c =
    came_fresh c.args.self.now c.take.new.self.view c.in-Some.spare c.renew.new.self c.args.first c.args.size c.in-Some.ensures.1
    (subst (λ (batch : LeanBatch). IsFresh batch.line c.args.first c.args.size c.renew.new.self) c.get_mut.ensures.value c.renew.ensures.fresh)

pub returns-in-Some-clause-stays : goal.returns-in-Some-clause-stays
returns-in-Some-clause-stays g c =
    let x = c.args.self.now in
    let y : Supply = record { alloc = x.alloc; line = x.line; spares = c.take.new.self; last = x.last } in
    came_supplies x y c.in-Some.spare c.in-Some.ensures.1 refl refl

pub returns-in-None-clause-fresh : goal.returns-in-None-clause-fresh
returns-in-None-clause-fresh g c =
    let x = c.args.self.now in
    let y : Supply = record { alloc = x.alloc; line = x.line; spares = c.take.new.self; last = x.last } in
    none_supplied x y c.made.result c.args.first c.args.size (ap (λ (e : End LaneKey). e.view) c.in-None.ensures) refl refl c.made.ensures.fresh

pub returns-in-None-clause-stays : goal.returns-in-None-clause-stays
returns-in-None-clause-stays g c = λ key at.
    let x = c.args.self.now in
    let y : Supply = record { alloc = x.alloc; line = x.line; spares = c.take.new.self; last = x.last } in
    c.made.ensures.stays key (none_supplies x y (ap (λ (e : End LaneKey). e.view) c.in-None.ensures) refl refl key at)
