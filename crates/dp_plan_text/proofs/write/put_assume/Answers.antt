use Rattle.std.proofs.Common.{◌≡◌, ◌++◌, List, ℕ, ap, ◌∙◌, codes}
use Rattle.std.proofs.lemmas.Result.{on_ok_weaker}
use Rattle.dp_text.specs.Labels.{labelled}
use Rattle.dp_plan_text.specs.PlanText.{outcome_number}
use Rattle.dp_text.proofs.Grown.{two_numbers}
use Rattle.dp_plan_text.proofs.WriteLemmas.{assume_line}
use Rattle.dp_plan_text.proofs.write.put_assume.Goals as goal

pub returns : goal.returns
returns c =
    let a = c.args.assume in
    let site : c.put_labelled.new.out ≡ c.args.out.now ++ labelled (codes "assume ") c.args.assume.site.0 = rw c.from.ensures at c.in_ok-put_labelled.ensures in
    let outcome : c.put_labelled-2.new.out ≡ c.put_labelled.new.out ++ labelled (codes " ") (outcome_number c.args.assume.taken) = rw c.outcome_number.ensures
    at c.in_ok-put_labelled-2.ensures in
    on_ok_weaker c.push.result
    (λ e. two_numbers c.args.out.now _ _ _ (codes "assume ") (codes " ") a.site.0 (outcome_number a.taken) site outcome e
    ∙ ap (λ (l : List ℕ). c.args.out.now ++ l) (assume_line a))
    c.push.ensures.ok
