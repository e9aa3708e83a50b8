use Rattle.std.proofs.Common.{◌≡◌, ◌++◌, List, ℕ, ap, ◌∙◌, codes}
use Rattle.std.proofs.lemmas.Result.{on_ok_weaker}
use Rattle.dp_text.specs.Labels.{labelled}
use Rattle.dp_profile_text.specs.ProfileText.{flow_word}
use Rattle.dp_profile_text.proofs.WriteLemmas.{flow_grew, flow_line}
use Rattle.dp_profile_text.proofs.write.put_flow.Goals as goal

pub returns : goal.returns
returns c =
    let f = c.args.flow in
    let from : c.put_labelled.new.out ≡ c.args.out.now ++ labelled (codes "flow ") c.args.flow.from.0 = rw c.from.ensures at c.in_ok-put_labelled.ensures in
    let to : c.put_labelled-2.new.out ≡ c.put_labelled.new.out ++ labelled (codes " ") c.args.flow.to.0 = rw c.from-2.ensures at
    c.in_ok-put_labelled-2.ensures in
    let word : c.extend_from_slice.new.self ≡ c.push.new.self ++ flow_word c.args.flow.carried = rw c.kind_word.ensures at
    c.in_ok-extend_from_slice.ensures.ok in
    on_ok_weaker c.push-2.result
    (λ e. flow_grew c.args.out.now _ _ _ _ _ _ (flow_word f.carried) f.from.0 f.to.0 f.shown from to c.in_ok-push.ensures.ok word
    c.in_ok-put_labelled-3.ensures e
    ∙ ap (λ (l : List ℕ). c.args.out.now ++ l) (flow_line f))
    c.push-2.ensures.ok
