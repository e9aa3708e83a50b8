use Rattle.std.proofs.Common.{◌≡◌, refl, sym, ap, subst, ◌∙◌, ℕ, List, Option, slice_get, arith}
use Rattle.std.proofs.lemmas.Option.{slice_get_read}
use Rattle.dp_plan.specs.declared.Plan.{Plan}
use Rattle.dp_prepared.specs.Planned.{prepared_of}
use Rattle.dp_prepared.proofs.Plans.{planned_at}
use Rattle.dp_run_plan.specs.Others.{MayRunAs, plan_entry, others_of}
use Rattle.dp_run_plan.proofs.Prepared.{may_run_at, place_is}
use Rattle.dp_run_plan.proofs.preparing.prepare.Goals as goal

pub new-requires-clause-planned : goal.new-requires-clause-planned
new-requires-clause-planned c =
    let plans = c.args.plans.now in
    let at = slice_get_read plans _ c.loop-plan.plan-index c.plan-item.result refl (omega arith) c.plan-item.is in
    planned_at c.args.program.now c.requires.inlined plans c.loop-plan.plan-index c.plan-item.result c.requires.plans at

pub new-requires-clause-other : goal.new-requires-clause-other
new-requires-clause-other c =
    let plans = c.args.plans.now in
    let i = c.loop-plan.plan-index in
    let chooses = c.requires.others.chooses in
    let at = slice_get_read plans _ i c.plan-item.result refl (omega arith) c.plan-item.is in
    let place : c.len.result ≡ i = c.len.ensures ∙ place_is (prepared_of c.args.program.now) c.loop-plan.regions plans i (omega arith) c.loop-plan.invariant in
    subst (MayRunAs c.args.program.now c.plan-item.result)
    (sym (c.at-other.ensures ∙ ap (λ (l : List (Option Plan)). plan_entry (slice_get l c.len.result)) c.requires.others.others
    ∙ ap (λ (j : ℕ). plan_entry (slice_get (others_of chooses plans) j)) place))
    (may_run_at c.args.program.now c.requires.inlined chooses plans i c.plan-item.result c.requires.plans at)
