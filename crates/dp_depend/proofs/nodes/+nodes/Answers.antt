use Rattle.std.proofs.Common.{◌≡◌, ◌+◌, ◌<◌, ◌++◌, ◌∷◌, [], List, ℕ, Option, Some, None, length, drop, sym, ap, subst, ◌∙◌, OnOk, arith}
use Rattle.std.proofs.lemmas.List.{at_drop_all}
use Rattle.dp_tree.specs.declared.Stmt.{Stmt}
use Rattle.dp_plan.proofs.Joins.{joins_more, joins_all, item_and_one, item_and_two}
use Rattle.dp_depend.specs.Node.{Node, plain_node, if_node, loop_of}
use Rattle.dp_depend.specs.Lists.{load_list, node_list, node_lists}
use Rattle.dp_depend.proofs.NodeForms.{nodes-none, nodes-next, nodes-If, nodes-While, nodes-Region}
use Rattle.dp_depend.proofs.nodes.+nodes.Goals as goal

pub put_nodes-loop-statement-preserved : goal.put_nodes-loop-statement-preserved
put_nodes-loop-statement-preserved t c =
    let all = c.args.all.now in let i = c.loop-statement.statement-index in let around = c.args.inside.around.now in let outer = c.args.inside.outer_loop in
    let below : c.loop-statement.statement-index < length c.args.all.now = omega arith in
    joins_more (c.args.out.now ++ node_lists around outer all) c.loop-statement.out c.put_nodes_of.new.out (node_lists around outer (drop i all))
    (node_list around outer c.statement-item.result) (node_lists around outer (drop (i + 1) all))
    c.loop-statement.invariant (nodes-next around outer all i c.statement-item.result below c.statement-item.is) c.in_ok-put_nodes_of.ensures

pub put_nodes-returns : goal.put_nodes-returns
put_nodes-returns t c =
    joins_all (c.args.out.now ++ node_lists c.args.inside.around.now c.args.inside.outer_loop c.args.all.now) c.loop-statement.out
    (node_lists c.args.inside.around.now c.args.inside.outer_loop (drop c.loop-statement.statement-index c.args.all.now)) c.loop-statement.invariant
    (at_drop_all (node_lists c.args.inside.around.now c.args.inside.outer_loop) c.args.all.now c.loop-statement.statement-index (omega arith)
    ∙ nodes-none c.args.inside.around.now c.args.inside.outer_loop)

pub put_nodes_of-returns-in_ok-put_part-in-If-2 : goal.put_nodes_of-returns-in_ok-put_part-in-If-2
put_nodes_of-returns-in_ok-put_part-in-If-2 t c =
    let w = c.in-If in let around = c.args.inside.around.now in let outer = c.args.inside.outer_loop in
    item_and_two c.args.out.now _ _ _ (node_lists (around ++ w.site.0 ∷ []) outer w.then_part) (node_lists (around ++ w.site.0 ∷ []) outer w.else_part)
    (if_node around outer w.site (load_list w.cond)) c.in_ok-put_if-in-If.ensures
    (c.in_ok-put_part-in-If.ensures ∙ ap (λ (l : List Stmt). c.put_if.new.out ++ node_lists (around ++ w.site.0 ∷ []) outer l) c.as_slice.ensures)
    (c.in_ok-put_part-in-If-2.ensures ∙ ap (λ (l : List Stmt). c.put_part.new.out ++ node_lists (around ++ w.site.0 ∷ []) outer l) c.as_slice-in-If.ensures)
    ∙ ap (λ (l : List Node). c.args.out.now ++ l) (sym (nodes-If around outer w.site w.cond w.then_part w.else_part) ∙ ap (node_list around outer) (sym w.is))

pub put_nodes_of-returns-in-While : goal.put_nodes_of-returns-in-While
put_nodes_of-returns-in-While t c =
    let w = c.in-While in let around = c.args.inside.around.now in let outer = c.args.inside.outer_loop in
    subst (λ (l : List Node). OnOk c.put_loop.result (c.put_loop.new.out ≡ c.args.out.now ++ l))
    (ap (λ (a : List ℕ). plain_node a c.in_loop.result.outer_loop w.site (load_list w.cond) None ∷ node_lists (a ++ w.site.0 ∷ []) c.in_loop.result.outer_loop
    c.as_slice-in-While.result.now) c.in_loop.ensures.around
    ∙ ap (λ (o : Option ℕ). plain_node around o w.site (load_list w.cond) None ∷ node_lists (around ++ w.site.0 ∷ []) o c.as_slice-in-While.result.now)
    c.in_loop.ensures.outer_loop
    ∙ ap (λ (l : List Stmt). plain_node around (Some (loop_of outer w.site.0)) w.site (load_list w.cond) None ∷ node_lists (around ++ w.site.0 ∷ [])
    (Some (loop_of outer w.site.0)) l) c.as_slice-in-While.ensures
    ∙ sym (nodes-While around outer w.site w.cond w.body) ∙ ap (node_list around outer) (sym w.is))
    c.put_loop.ensures

pub put_nodes_of-returns-in-Region : goal.put_nodes_of-returns-in-Region
put_nodes_of-returns-in-Region t c =
    let w = c.in-Region in let around = c.args.inside.around.now in let outer = c.args.inside.outer_loop in
    subst (λ (l : List Node). OnOk c.put_loop-in-Region.result (c.put_loop-in-Region.new.out ≡ c.args.out.now ++ l))
    (ap (λ (l : List Stmt). plain_node around outer w.site (load_list w.cond) None ∷ node_lists (around ++ w.site.0 ∷ []) outer l) c.as_slice-in-Region.ensures
    ∙ sym (nodes-Region around outer w.region w.site w.cond w.body) ∙ ap (node_list around outer) (sym w.is))
    c.put_loop-in-Region.ensures

pub put_loop-returns : goal.put_loop-returns
put_loop-returns t c =
    let around = c.args.inside.around.now in let outer = c.args.inside.outer_loop in
    item_and_one c.args.out.now _ _ (node_lists (around ++ c.args.site.0 ∷ []) outer c.args.body.now)
    (plain_node around outer c.args.site (load_list c.args.cond.now) None)
    c.in_ok-put_value.ensures c.in_ok-put_part.ensures
