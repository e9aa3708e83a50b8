use denote.Param.Send.{sendable}
use Rattle.dp_pipeline.proofs.Crossing.{carried_send}
use Rattle.std.proofs.Common.{arith, ◌≡◌, ◌+◌, ◌-◌, ◌*◌, ◌^◌, ℕ, suc, List, sym, ap, ◌∙◌, subst, refl}
use Rattle.dp_plan.specs.Access.{is_replicated}
use Rattle.dp_plan.specs.Each.{Each}
use Rattle.dp_ring.specs.declared.view.Standing.{Standing}
use Rattle.dp_pipeline.specs.declared.keys.LaneKey.{LaneKey}
use Rattle.dp_pipeline.specs.Seats.{IsUnused}
use Rattle.dp_pipeline.proofs.Beginning.{puts_first, collects_first, all_unused}
use Rattle.dp_pipeline.proofs.making.add_replicated.Goals as goal

pub add_unit-requires-clause-start : goal.add_unit-requires-clause-start
add_unit-requires-clause-start c =
    let lane : LaneKey = record { epoch = c.args.setting.now.key.epoch; stage = c.args.setting.now.key.stage + 1 } in (
      c.requires.source.0,
      (puts_first c.in_ok-input.input c.in_ok-input.output.ring c.args.setting.now.size.lane lane c.args.setting.now.key.stage c.in_ok-input.ensures.producer
          refl c.requires.setting.fuel).0,
    )

pub add_workers-requires-clause-replicated : goal.add_workers-requires-clause-replicated
add_workers-requires-clause-replicated c =
    let behind : c.args.setting.now.key.stage + 1 ≡ suc c.args.setting.now.key.stage = omega (arith) in
    ap (λ (s : ℕ). is_replicated c.args.setting.now.key.epoch.plan.now s) behind ∙ c.requires.replicated

pub add_workers-requires-clause-seats : goal.add_workers-requires-clause-seats
add_workers-requires-clause-seats c =
    let lane : LaneKey = record { epoch = c.args.setting.now.key.epoch; stage = c.args.setting.now.key.stage + 1 } in
    subst (λ (seats : List (Standing LaneKey)). Each (IsUnused lane) seats) (sym c.in_ok-input.ensures.workers)
    (all_unused c.args.setting.now.size.workers c.in_ok-input.output.ring c.args.setting.now.size.lane lane)

pub returns-clause-next : goal.returns-clause-next
returns-clause-next c =
    let lane : LaneKey = record { epoch = c.args.setting.now.key.epoch; stage = c.args.setting.now.key.stage + 1 } in
    collects_first c.in_ok-input.output c.in_ok-input.output.ring c.args.setting.now.size.lane (2 ^ 62 - c.args.setting.now.size.workers * 2 ^ 32) lane
    c.in_ok-input.ensures.consumer

pub new-requires-send-T : goal.new-requires-send-T
new-requires-send-T c κs within = search (carried_send, sendable) depth 60 fits 20000

pub add_unit-requires-clause-stage : goal.add_unit-requires-clause-stage
add_unit-requires-clause-stage c = let within = c.requires.within in (c.requires.setting.numbered, omega (arith, within))

pub add_workers-requires-clause-within : goal.add_workers-requires-clause-within
add_workers-requires-clause-within c = let within = c.requires.within in omega (arith, within)
