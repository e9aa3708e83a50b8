use Rattle.std.proofs.Common.{◌≡◌, ◌++◌, sym, ap, ◌∙◌}
use Rattle.dp_plan.specs.Enclosing.{if_at}
use Rattle.dp_sites.specs.Lists.{site_lists}
use Rattle.dp_plan_text.proofs.ConditionForms.{enclosing, if_sites}
use Rattle.dp_plan_text.proofs.conditions.IfsQuestionEnclosing.ask.Goals as goal

pub returns-in_ok-push-in-If : goal.returns-in_ok-push-in-If
returns-in_ok-push-in-If c =
    let w = c.in-If in
    let inside : c.put_sites-in-If.new.out ≡ site_lists c.in-If.then_part ++ site_lists c.in-If.else_part =
    rw (c.as_slice-in-If.ensures, c.in_ok-put_sites-in-If.ensures, c.new-inside.ensures, c.as_slice.ensures) at c.in_ok-put_sites-in-If-2.ensures in
    c.in_ok-push-in-If.ensures.ok ∙ ap (λ l. c.args.out.now ++ enclosing w.site l) inside
    ∙ ap (λ l. c.args.out.now ++ l) (sym (if_sites w.site w.cond w.then_part w.else_part) ∙ ap if_at (sym w.is))
