use Rattle.std.proofs.Common.{◌≡◌, ◌++◌, List, ℕ, ap, ◌∙◌, codes}
use Rattle.std.proofs.lemmas.Result.{on_ok_weaker}
use Rattle.dp_text.specs.Labels.{labelled}
use Rattle.dp_text.proofs.Grown.{three_numbers}
use Rattle.dp_profile_text.proofs.WriteLemmas.{runs_line}
use Rattle.dp_profile_text.proofs.write.put_count.Goals as goal

pub returns : goal.returns
returns c =
    let site : c.put_labelled.new.out ≡ c.args.out.now ++ labelled (codes "runs ") c.args.site.0 = rw c.from.ensures at c.in_ok-put_labelled.ensures in
    on_ok_weaker c.push.result
    (λ e. three_numbers c.args.out.now _ _ _ _ (codes "runs ") (codes " ") (codes " ") c.args.site.0 c.args.count.runs c.args.count.nonzero site
    c.in_ok-put_labelled-2.ensures c.in_ok-put_labelled-3.ensures e
    ∙ ap (λ (l : List ℕ). c.args.out.now ++ l) (runs_line c.args.site c.args.count))
    c.push.ensures.ok
