use Rattle.std.proofs.Common.{◌≡◌, [], ◌∷◌, ◌++◌, List, ℕ, ap, ◌∙◌}
use Rattle.std.proofs.lemmas.Result.{on_ok_weaker}
use Rattle.dp_text.specs.Labels.{spaced}
use Rattle.dp_plan_text.specs.PlanText.{kind_word}
use Rattle.dp_plan_text.specs.WrittenText.{written_stage_at}
use Rattle.dp_text.proofs.Grown.{grew}
use Rattle.dp_plan_text.proofs.WriteLemmas.{stage_line}
use Rattle.dp_plan_text.proofs.write.put_stage.Goals as goal

pub returns : goal.returns
returns c =
    let stage = written_stage_at c.args.p.now c.args.plan.now c.args.sites.now c.args.stage c.args.kind in
    let word : c.extend_from_slice.new.self ≡ c.args.out.now ++ kind_word c.args.kind = rw c.kind_word.ensures at c.in_ok-extend_from_slice.ensures.ok in
    on_ok_weaker c.push.result
    (λ e. grew c.args.out.now _ _ _ (kind_word c.args.kind) (spaced stage.sites) (10 ∷ []) word c.in_ok-put_sites.ensures e
    ∙ ap (λ (l : List ℕ). c.args.out.now ++ l) (stage_line stage))
    c.push.ensures.ok
