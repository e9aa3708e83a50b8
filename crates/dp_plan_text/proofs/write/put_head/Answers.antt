use Rattle.std.proofs.Common.{◌≡◌, ◌++◌, List, ℕ, ap, ◌∙◌, codes}
use Rattle.std.proofs.lemmas.Result.{on_ok_weaker}
use Rattle.dp_text.specs.Labels.{labelled}
use Rattle.dp_plan_text.specs.PlanText.{version_number}
use Rattle.dp_text.proofs.Grown.{one_number}
use Rattle.dp_plan_text.proofs.WriteLemmas.{head_line}
use Rattle.dp_plan_text.proofs.write.put_head.Goals as goal

pub returns : goal.returns
returns c =
    let version : c.put_labelled.new.out ≡ c.args.out.now ++ labelled (codes "plan ") (version_number c.args.proved) = rw c.version_number.ensures at
    c.in_ok-put_labelled.ensures in
    on_ok_weaker c.push.result
    (λ e. one_number c.args.out.now _ _ (codes "plan ") (version_number c.args.proved) version e
    ∙ ap (λ (l : List ℕ). c.args.out.now ++ l) (head_line c.args.proved))
    c.push.ensures.ok
