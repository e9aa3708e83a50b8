use Rattle.std.proofs.Common.{List, [], ◌∷◌, length, length-append, ◌∙◌, ap, subst, arith}
use Rattle.dp_plan.specs.Each.{Each}
use Rattle.dp_ring.specs.declared.view.Standing.{Standing}
use Rattle.dp_pipeline.specs.declared.keys.LaneKey.{LaneKey}
use Rattle.dp_pipeline.specs.Seats.{IsUnused}
use Rattle.dp_pipeline.proofs.Beginning.{last_off}
use Rattle.dp_pipeline.proofs.staffing.add_workers.Goals as goal

pub loop-at-preserved : goal.loop-at-preserved
loop-at-preserved c = (
  (last_off c.args.setting.now.key c.pop.new.self c.in-Some.at
      (subst (λ (seats : List (Standing LaneKey)). Each (IsUnused c.args.setting.now.key) seats) c.in-Some.ensures c.loop-at.invariant.0)).0,
  c.seat.ensures.kept ∙ c.loop-at.invariant.1,
  (let more = ap length c.in_ok-push.ensures.ok in let many = length-append c.loop-at.units (c.in_ok-unit.unit ∷ []) in
      let fewer = ap length c.in-Some.ensures in let few = length-append c.pop.new.self (c.in-Some.at ∷ []) in
      omega (arith, more, many, fewer, few, c.loop-at.invariant.2)),
)

pub returns-clause-count : goal.returns-clause-count
returns-clause-count c = let none = ap length c.in_default.ensures.0 in omega (arith, none, c.loop-at.invariant.2)
