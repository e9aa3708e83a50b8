use Rattle.std.proofs.Common.{◌+◌, ◌<◌, List, length, drop, get_or, sym, ap, ◌∙◌, arith}
use Rattle.dp_tree.specs.declared.Stmt.{Stmt}
use Rattle.dp_tree.specs.Statements.{asked}
use Rattle.dp_sites.specs.Lists.{asked_in_region}
use Rattle.dp_plan.proofs.Joins.{joins_more}
use Rattle.dp_sites.proofs.ListWalks.{none_joins, region-next, region-skip}
use Rattle.dp_sites.proofs.walk.ask_region.Goals.{then-is_region+in_ok-ask_each, else-is_region}
use Rattle.dp_sites.proofs.walk.ask_region.Goals as goal

pub loop-statement-preserved : goal.loop-statement-preserved
loop-statement-preserved g c =
    let gives = g.Q.Question.gives in let s = c.statement-item.result in
    let all = c.args.p.now.main in let i = c.loop-statement.statement-index in let r = c.args.region in
    let same = c.as_slice-statement-items.ensures in
    let below : c.loop-statement.statement-index < length c.args.p.now.main =
    let there : c.loop-statement.statement-index < length c.as_slice-statement-items.result.now = omega arith in rw same at there in
    let item = c.statement-item.is ∙ ap (λ (l : List Stmt). get_or l i s) same in
    elim c.if-is_region.branch [
      | then-is_region+in_ok-ask_each w ↦
          joins_more (asked_in_region gives r all) c.loop-statement.found c.if-is_region.found (asked_in_region gives r (drop i all))
          (asked gives s) (asked_in_region gives r (drop (i + 1) all))
          c.loop-statement.invariant (region-next gives r all i s below item (sym c.is_region.ensures ∙ w.if-is_region.true)) (w.found-is
          ∙ w.in_ok-ask_each.ensures)
      | else-is_region w ↦
          none_joins (asked_in_region gives r all) c.loop-statement.found c.if-is_region.found {whole = asked_in_region gives r (drop i all)}
          c.loop-statement.invariant (region-skip gives r all i s below item (sym c.is_region.ensures ∙ w.if-is_region.false)) w.found-is
    ]
