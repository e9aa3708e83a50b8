use Rattle.std.proofs.Common.{◌≡◌, ◌++◌, sym, ap, ◌∙◌}
use Rattle.dp_plan.specs.Enclosing.{inner_while_at}
use Rattle.dp_sites.specs.Lists.{site_lists}
use Rattle.dp_plan_text.proofs.ConditionForms.{enclosing, while_sites}
use Rattle.dp_plan_text.proofs.conditions.InnerWhilesQuestionEnclosing.ask.Goals as goal

pub returns-in_ok-push-in-While : goal.returns-in_ok-push-in-While
returns-in_ok-push-in-While c =
    let w = c.in-While in
    let inside : c.put_sites.new.out ≡ site_lists c.in-While.body = rw (c.new-inside.ensures, c.as_slice.ensures) at c.in_ok-put_sites-in-While.ensures in
    c.in_ok-push-in-While.ensures.ok ∙ ap (λ l. c.args.out.now ++ enclosing w.site l) inside
    ∙ ap (λ l. c.args.out.now ++ l) (sym (while_sites w.site w.cond w.body) ∙ ap inner_while_at (sym w.is))
