use Rattle.std.proofs.Common.{◌≡◌, ℕ, List, ◌++◌, codes, sym, ap, ◌∙◌, subst, append_assoc}
use Rattle.std.specs.Option.{option_copied}
use Rattle.dp_plan_text.specs.WrittenText.{plans_text}
use Rattle.dp_explain.specs.Explanation.{Reasons}
use Rattle.dp_explain.proofs.reasons.explain.Goals as goal

joined : (plans reasons last one two three : List ℕ) → one ≡ plans → two ≡ one ++ reasons → three ≡ two ++ last → three ≡ plans ++ (reasons ++ last)
joined plans reasons last one two three e f g = g ∙ ap (λ (l : List ℕ). l ++ last) (f ∙ ap (λ (l : List ℕ). l ++ reasons) e) ∙ append_assoc plans reasons last

pub returns : goal.returns
returns c = record {
  reasons = c.as_slice-2.result.now;
  are = subst (Reasons c.args.p.now (option_copied c.args.profile) c.args.rate c.args.plans.now) (sym c.as_slice-2.ensures) c.in_ok-reasons.ensures;
  is = joined (plans_text c.args.p.now c.args.plans.now) c.as_slice-2.result.now (codes "end\n") _ _ _ c.in_ok-out.ensures c.in_ok-extend_from_slice.ensures.ok
      c.in_ok-extend_from_slice-2.ensures.ok;
}
