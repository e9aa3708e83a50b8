use Rattle.std.proofs.Common.{◌≡◌, refl, sym, ap, subst, arith, ℕ, ◌-◌, ◌+◌, ◌≤◌, List, [], ◌∷◌, length, length-append}
use Rattle.dp_lean_region.specs.declared.stages.StageTables.{StageTables}
use Rattle.dp_lean_region.specs.steps.Tables.{AreStages, IsStage}
use Rattle.dp_lean_region.proofs.Holding.{stage_more, no_stage}
use Rattle.dp_lean_region.proofs.stages.stage_tables.Goals as goal

pub loop-place-init : goal.loop-place-init
loop-place-init c =
    let p = c.args.program.now in let plan = c.args.plan.now in let kinds = c.args.kinds.now in
    subst (λ (made : List StageTables). (length made ≡ 0) × AreStages p plan kinds made) (sym c.new-stages.ensures) (refl, no_stage p plan kinds)

pub loop-place-preserved : goal.loop-place-preserved
loop-place-preserved c =
    let p = c.args.program.now in let plan = c.args.plan.now in let kinds = c.args.kinds.now in
    let made = c.loop-place.stages in let stage = c.in_ok-made.made in
    let place : (c.loop-place.place + 1) - 1 ≡ length made = omega (arith, c.loop-place.invariant.0) in
    let here = subst (λ (n : ℕ). IsStage p plan kinds n stage) place c.in_ok-made.ensures in (
      (let more = ap length c.in_ok-push.ensures.ok in let many = length-append made (stage ∷ []) in omega (arith, more, many, c.loop-place.invariant.0)),
      subst (λ (stages : List StageTables). AreStages p plan kinds stages) (sym c.in_ok-push.ensures.ok)
          (stage_more p plan kinds made stage c.loop-place.invariant.1 here),
    )

pub returns : goal.returns
returns c =
    let many = c.in_ok-count.ensures in let made = c.loop-place.invariant.0 in let over = c.loop-place-test.false in
    let upto : c.loop-place.place ≤ c.in_ok-count.count = c.loop-place.auto.place-end in
    record { count = omega (arith, many, made, over, upto); each = c.loop-place.invariant.1 }
