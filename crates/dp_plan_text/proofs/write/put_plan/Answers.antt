use Rattle.std.proofs.Common.{◌≡◌, ◌++◌, List, ℕ, ap, ◌∙◌}
use Rattle.dp_tree.specs.declared.Assume.{Assume}
use Rattle.dp_plan_text.specs.declared.line.Line.TheVariants as line
use Rattle.dp_plan.specs.Written.{region_sites}
use Rattle.dp_plan_text.specs.WrittenText.{plan_line_text, stage_texts, assume_texts}
use Rattle.dp_text.proofs.Grown.{grew}
use Rattle.dp_plan_text.proofs.WriteLemmas.{plan_parts}
use Rattle.dp_plan_text.proofs.write.put_plan.Goals as goal

pub returns : goal.returns
returns c =
    let p = c.args.p.now in let plan = c.args.plan.now in
    let stages : c.put_stages.new.out ≡ c.put_region.new.out ++ stage_texts c.args.p.now c.args.plan.now (region_sites c.args.p.now c.args.plan.now.region) 1
    c.args.plan.now.stages =
    c.in_ok-put_stages.ensures ∙ ap (λ (l : List ℕ). c.put_region.new.out ++ stage_texts c.args.p.now c.args.plan.now l 1 c.args.plan.now.stages)
    (c.as_slice.ensures ∙ c.in_ok-sites.ensures) in
    let assumed : c.put_assumed.new.out ≡ c.put_stages.new.out ++ assume_texts c.args.plan.now.assume =
    c.in_ok-put_assumed.ensures ∙ ap (λ (l : List Assume). c.put_stages.new.out ++ assume_texts l) c.as_slice-2.ensures in
    grew c.args.out.now _ _ _ (plan_line_text (line.Region plan.region plan.words)) (stage_texts p plan (region_sites p plan.region) 1 plan.stages)
    (assume_texts plan.assume) c.in_ok-put_region.ensures stages assumed
    ∙ ap (λ (l : List ℕ). c.args.out.now ++ l) (plan_parts p plan)
