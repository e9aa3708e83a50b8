use Rattle.std.proofs.Common.{◌≡◌, ◌++◌, List, ℕ, ap, ◌∙◌, codes}
use Rattle.std.proofs.lemmas.Result.{on_ok_weaker}
use Rattle.dp_text.specs.Labels.{labelled}
use Rattle.dp_text.proofs.Grown.{two_numbers}
use Rattle.dp_plan_text.proofs.WriteLemmas.{region_line}
use Rattle.dp_plan_text.proofs.write.put_region.Goals as goal

pub returns : goal.returns
returns c =
    let region : c.put_labelled.new.out ≡ c.args.out.now ++ labelled (codes "region ") c.args.region = rw c.from.ensures at c.in_ok-put_labelled.ensures in
    let words : c.put_labelled-2.new.out ≡ c.put_labelled.new.out ++ labelled (codes " words ") c.args.words = rw c.from-2.ensures at
    c.in_ok-put_labelled-2.ensures in
    on_ok_weaker c.push.result
    (λ e. two_numbers c.args.out.now _ _ _ (codes "region ") (codes " words ") c.args.region c.args.words region words e
    ∙ ap (λ (l : List ℕ). c.args.out.now ++ l) (region_line c.args.region c.args.words))
    c.push.ensures.ok
