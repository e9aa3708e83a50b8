use Rattle.std.proofs.Common.{◌≡◌, Bool, [], ◌++◌, List, ℕ, drop, ap, ◌∙◌, codes, arith}
use Rattle.std.proofs.lemmas.List.{at_drop_all}
use Rattle.dp_plan_text.specs.declared.line.Line.TheVariants as line
use Rattle.dp_plan_text.specs.WrittenText.{plan_line_text, plan_texts}
use Rattle.dp_plan.specs.GivenPlans.{plans_version}
use Rattle.dp_plan.proofs.Joins.{joins_all}
use Rattle.dp_text.proofs.Grown.{grew}
use Rattle.dp_plan_text.proofs.WriteLemmas.{text_parts}
use Rattle.dp_plan_text.proofs.write.write_plans.Goals as goal

pub returns : goal.returns
returns c =
    let p = c.args.p.now in let plans = c.args.plans.now in
    let body : c.loop-plan.out ≡ c.put_head.new.out ++ plan_texts c.args.p.now c.args.plans.now =
    joins_all _ c.loop-plan.out (plan_texts p (drop c.loop-plan.plan-index plans)) c.loop-plan.invariant
    (at_drop_all (plan_texts p) plans c.loop-plan.plan-index (omega arith)) in
    grew [] _ _ _ (plan_line_text (line.Head (plans_version plans))) (plan_texts p plans) (codes "end\n") (c.in_ok-put_head.ensures
    ∙ ap (λ (b : Bool). c.new-out.result ++ plan_line_text (line.Head b)) c.is_proved.ensures
    ∙ ap (λ (l : List ℕ). l ++ plan_line_text (line.Head (plans_version plans))) c.new-out.ensures) body c.in_ok-extend_from_slice.ensures.ok
    ∙ text_parts p plans
