use Rattle.std.proofs.Common.{◌≡◌, ℕ, ◌+◌, ◌<◌, List, [], ◌++◌, drop, length, sym, ap, ◌∙◌, subst, append_assoc, append-nil, arith}
use Rattle.std.proofs.lemmas.List.{drop_all}
use Rattle.std.specs.Option.{option_copied}
use Rattle.dp_room.proofs.ListLemmas.{next_of}
use Rattle.dp_plan.specs.declared.Plan.{Plan}
use Rattle.dp_explain.specs.Explanation.{Reasons, none, more}
use Rattle.dp_explain.specs.Reasons.{reason_text}
use Rattle.dp_explain.proofs.reasons.reasons_of.Goals as goal

pub loop-plan-preserved : goal.loop-plan-preserved
loop-plan-preserved c = λ later behind.
    let p = c.args.p.now in let profile = option_copied c.args.profile in let rate = c.args.rate in
    let at = c.loop-plan.plan-index in let all = c.args.plans.now in let plan = c.plan-item.result in
    let added = c.in_ok-put_reason.ensures in
    let below : c.loop-plan.plan-index < length c.args.plans.now = omega arith in
    let here = more plan (drop (at + 1) all) added.units later added.are behind in
    let whole = c.loop-plan.invariant (reason_text p profile rate added.units plan ++ later)
    (subst (λ (ps : List Plan). Reasons p profile rate ps (reason_text p profile rate added.units plan ++ later))
    (sym (next_of all at plan below c.plan-item.is)) here) in
    subst (Reasons p profile rate all) (sym (ap (λ (out : List ℕ). out ++ later) added.text
    ∙ append_assoc c.loop-plan.out (reason_text p profile rate added.units plan) later)) whole

pub returns : goal.returns
returns c =
    let p = c.args.p.now in let profile = option_copied c.args.profile in let rate = c.args.rate in let all = c.args.plans.now in
    let over : drop c.loop-plan.plan-index c.args.plans.now ≡ [] = drop_all c.loop-plan.plan-index c.args.plans.now (omega arith) in
    let last = subst (λ (ps : List Plan). Reasons p profile rate ps []) (sym over) none in
    subst (Reasons p profile rate all) (append-nil c.loop-plan.out) (c.loop-plan.invariant [] last)
