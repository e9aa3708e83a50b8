use Rattle.std.proofs.Common.{◌+◌, ◌<◌, ◌≤◌, ℕ, List, length, sym, subst, arith}
use Rattle.std.specs.Option.{option_copied}
use Rattle.dp_plan.specs.declared.Plan.{Plan}
use Rattle.dp_cut.specs.Automatic.{IsAutomatic}
use Rattle.dp_cut.proofs.AutomaticPlans.{Made, made_least, made_more, made_none}
use Rattle.dp_cut.proofs.PlansValid.{automatic_valid}
use Rattle.dp_cut.proofs.automatic.least_plans.Goals as goal

pub loop-place-init : goal.loop-place-init
loop-place-init c = subst (λ (plans : List Plan). Made c.args.p.now (option_copied c.args.wishes.profile) c.args.wishes.rate c.args.wishes.stages
    c.args.wishes.workers 0 plans) (sym c.new-plans.ensures) (made_none c.args.p.now _ _ _ _)

pub loop-place-preserved : goal.loop-place-preserved
loop-place-preserved c =
    let below : c.loop-place.place < length c.args.p.now.regions = omega (arith, c.loop-place-test.true, c.len-place-end.ensures) in
    subst (λ (plans : List Plan). Made c.args.p.now (option_copied c.args.wishes.profile) c.args.wishes.rate c.args.wishes.stages c.args.wishes.workers
    (c.loop-place.place + 1) plans) (sym c.in_ok-push.ensures.ok)
    (made_more c.args.p.now _ _ _ _ c.loop-place.place c.loop-place.plans c.in_ok-plan.plan below c.loop-place.invariant
    (subst (λ (r : ℕ). IsAutomatic c.args.p.now r (option_copied c.args.wishes.profile) c.args.wishes.rate c.args.wishes.stages c.args.wishes.workers
    c.in_ok-plan.plan) c.in_ok-region.ensures.value c.in_ok-plan.ensures))

pub returns-clause-least : goal.returns-clause-least
returns-clause-least c =
    let all : length c.args.p.now.regions ≤ c.loop-place.place = omega (arith, c.loop-place-test.false, c.len-place-end.ensures) in
    made_least c.args.p.now _ _ _ _ c.loop-place.place c.loop-place.plans all c.loop-place.invariant

pub returns-clause-fit : goal.returns-clause-fit
returns-clause-fit c =
    let all : length c.args.p.now.regions ≤ c.loop-place.place = omega (arith, c.loop-place-test.false, c.len-place-end.ensures) in
    automatic_valid c.args.p.now c.requires.inlined (option_copied c.args.wishes.profile) c.args.wishes.rate c.args.wishes.stages c.args.wishes.workers
    c.loop-place.plans c.requires.few_stages
    (made_least c.args.p.now _ _ _ _ c.loop-place.place c.loop-place.plans all c.loop-place.invariant)
