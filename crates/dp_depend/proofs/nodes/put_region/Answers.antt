use Rattle.std.proofs.Common.{◌+◌, ◌<◌, ◌++◌, [], None, List, length, drop, sym, ap, ◌∙◌, arith}
use Rattle.std.proofs.lemmas.List.{at_drop_all}
use Rattle.dp_plan.proofs.Joins.{joins_more, joins_all}
use Rattle.dp_depend.specs.Node.{Node}
use Rattle.dp_depend.specs.Lists.{node_list, nodes_in_region}
use Rattle.dp_depend.proofs.NodeForms.{region-none, region-next, region-skip}
use Rattle.dp_depend.proofs.nodes.put_region.Goals.{then-is_region+in_ok-put_nodes_of, else-is_region}
use Rattle.dp_depend.proofs.nodes.put_region.Goals as goal

pub loop-statement-preserved : goal.loop-statement-preserved
loop-statement-preserved c =
    let all = c.args.all.now in let i = c.loop-statement.statement-index in let r = c.args.region in
    let below : c.loop-statement.statement-index < length c.args.all.now = omega arith in
    elim c.if-is_region.branch [
      | then-is_region+in_ok-put_nodes_of w ↦
          joins_more (c.args.out.now ++ nodes_in_region r all) c.loop-statement.out c.if-is_region.out (nodes_in_region r (drop i all))
          (node_list [] None c.statement-item.result) (nodes_in_region r (drop (i + 1) all))
          c.loop-statement.invariant (region-next r all i c.statement-item.result below c.statement-item.is (sym c.is_region.ensures ∙ w.if-is_region.true))
          (w.out-is ∙ w.in_ok-put_nodes_of.ensures)
      | else-is_region w ↦
          ap (λ (l : List Node). l ++ nodes_in_region r (drop (i + 1) all)) w.out-is
          ∙ ap (λ (l : List Node). c.loop-statement.out ++ l)
          (sym (region-skip r all i c.statement-item.result below c.statement-item.is (sym c.is_region.ensures ∙ w.if-is_region.false)))
          ∙ c.loop-statement.invariant
    ]

pub returns : goal.returns
returns c =
    let r = c.args.region in
    joins_all (c.args.out.now ++ nodes_in_region r c.args.all.now) c.loop-statement.out
    (nodes_in_region r (drop c.loop-statement.statement-index c.args.all.now)) c.loop-statement.invariant
    (at_drop_all (nodes_in_region r) c.args.all.now c.loop-statement.statement-index (omega arith) ∙ region-none r)
