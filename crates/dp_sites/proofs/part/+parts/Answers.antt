use Rattle.std.proofs.Common.{◌≡◌, ◌+◌, ◌<◌, ◌++◌, ◌∷◌, List, ℕ, Option, None, length, drop, sym, ap, subst, ◌∙◌, OnOk, arith}
use Rattle.std.proofs.lemmas.List.{at_drop_all}
use Rattle.dp_tree.specs.declared.Stmt.{Stmt}
use Rattle.dp_sites.specs.steps.Parts.{Part, loads_in, part_list, part_lists, until_in}
use Rattle.dp_plan.proofs.Joins.{joins_more, joins_all, item_and_one, item_and_two}
use Rattle.dp_sites.proofs.PartForms.{part, parts-none, parts-next, part-If, part-While, part-Region}
use Rattle.dp_sites.proofs.part.+parts.Goals as goal

pub put_parts-loop-statement-preserved : goal.put_parts-loop-statement-preserved
put_parts-loop-statement-preserved t c =
    let all = c.args.all.now in let i = c.loop-statement.statement-index in let u = c.args.inside.until in
    let below : c.loop-statement.statement-index < length c.args.all.now = omega arith in
    joins_more (c.args.out.now ++ part_lists u all) c.loop-statement.out c.put_parts_of.new.out (part_lists u (drop i all))
    (part_list u c.statement-item.result) (part_lists u (drop (i + 1) all))
    c.loop-statement.invariant (parts-next u all i c.statement-item.result below c.statement-item.is) c.in_ok-put_parts_of.ensures

pub put_parts-returns : goal.put_parts-returns
put_parts-returns t c =
    joins_all (c.args.out.now ++ part_lists c.args.inside.until c.args.all.now) c.loop-statement.out
    (part_lists c.args.inside.until (drop c.loop-statement.statement-index c.args.all.now)) c.loop-statement.invariant
    (at_drop_all (part_lists c.args.inside.until) c.args.all.now c.loop-statement.statement-index (omega arith) ∙ parts-none c.args.inside.until)

pub put_parts_of-returns-in_ok-put_parts-in-If-2 : goal.put_parts_of-returns-in_ok-put_parts-in-If-2
put_parts_of-returns-in_ok-put_parts-in-If-2 t c =
    let w = c.in-If in let u = c.args.inside.until in
    item_and_two c.args.out.now _ _ _ (part_lists u w.then_part) (part_lists u w.else_part) (part w.site u (loads_in w.cond) None)
    c.in_ok-put_statement-in-If.ensures
    (c.in_ok-put_parts-in-If.ensures ∙ ap (λ (l : List Stmt). c.put_statement-in-If.new.out ++ part_lists u l) c.as_slice.ensures)
    (c.in_ok-put_parts-in-If-2.ensures ∙ ap (λ (l : List Stmt). c.put_parts.new.out ++ part_lists u l) c.as_slice-in-If.ensures)
    ∙ ap (λ (l : List Part). c.args.out.now ++ l) (sym (part-If u w.site w.cond w.then_part w.else_part) ∙ ap (part_list u) (sym w.is))

pub put_parts_of-returns-in_ok-within-in-While : goal.put_parts_of-returns-in_ok-within-in-While
put_parts_of-returns-in_ok-within-in-While t c =
    let w = c.in-While in let u = c.args.inside.until in
    subst (λ (l : List Part). OnOk c.put_loop.result (c.put_loop.new.out ≡ c.args.out.now ++ l))
    (ap (λ (o : Option ℕ). part w.site o (loads_in w.cond) None ∷ part_lists o c.as_slice-in-While.result.now) c.in_ok-within-in-While.ensures
    ∙ ap (λ (l : List Stmt). part w.site (until_in u c.args.statement.now) (loads_in w.cond) None ∷ part_lists (until_in u c.args.statement.now) l)
    c.as_slice-in-While.ensures
    ∙ ap (λ (s : Stmt). part w.site (until_in u s) (loads_in w.cond) None ∷ part_lists (until_in u s) w.body) w.is ∙ sym (part-While u w.site w.cond w.body)
    ∙ ap (part_list u) (sym w.is))
    c.put_loop.ensures

pub put_parts_of-returns-in-Region : goal.put_parts_of-returns-in-Region
put_parts_of-returns-in-Region t c =
    let w = c.in-Region in let u = c.args.inside.until in
    subst (λ (l : List Part). OnOk c.put_loop-in-Region.result (c.put_loop-in-Region.new.out ≡ c.args.out.now ++ l))
    (ap (λ (l : List Stmt). part w.site u (loads_in w.cond) None ∷ part_lists u l) c.as_slice-in-Region.ensures
    ∙ sym (part-Region u w.region w.site w.cond w.body) ∙ ap (part_list u) (sym w.is))
    c.put_loop-in-Region.ensures

pub put_loop-returns : goal.put_loop-returns
put_loop-returns t c =
    let u = c.args.inside.until in
    item_and_one c.args.out.now _ _ (part_lists u c.args.body.now) (part c.args.site u (loads_in c.args.cond.now) None) c.in_ok-put_statement.ensures
    c.in_ok-put_parts.ensures
