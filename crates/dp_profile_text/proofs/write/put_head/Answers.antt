use Rattle.std.proofs.Common.{◌++◌, List, ℕ, ap, ◌∙◌, codes}
use Rattle.std.proofs.lemmas.Result.{on_ok_weaker}
use Rattle.dp_profile_text.proofs.WriteLemmas.{region_line}
use Rattle.dp_profile_text.proofs.write.put_head.Goals as goal
use Rattle.dp_text.proofs.Grown.{one_number}

pub returns : goal.returns
returns c =
    on_ok_weaker c.push.result
    (λ e. one_number c.args.out.now _ _ (codes "region ") c.args.number c.in_ok-put_labelled.ensures e
    ∙ ap (λ (l : List ℕ). c.args.out.now ++ l) (region_line c.args.number))
    c.push.ensures.ok
