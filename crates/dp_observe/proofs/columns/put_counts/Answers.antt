use Rattle.std.proofs.Common.{rules, ◌≡◌, [], ◌∷◌}
use Rattle.dp_observe.proofs.RowLemmas.{counts_more, counts_all}
use Rattle.dp_observe.proofs.columns.put_counts.Goals as goal

pub loop-column-preserved : goal.loop-column-preserved
loop-column-preserved c =
    let step : c.loop-column.column-iterator ≡ (c.in-Some.column.now, c.in-Some.shown.now) ∷ c.next.new.self = search rules in
    let next = counts_more c.args.sites.now c.args.to c.in-Some.column.now c.in-Some.shown.now c.loop-column.column-iterator c.next.new.self
    c.args.counts.now.entries c.args.rows.now c.loop-column.rows c.put_flow.new.rows
    step c.in_ok-put_flow.ensures c.loop-column.invariant.size c.loop-column.invariant.rows in
    record { size = next.0; rows = next.1 }

pub returns : goal.returns
returns c =
    let none : c.loop-column.column-iterator ≡ [] = search rules in
    counts_all c.args.sites.now c.args.to c.loop-column.column-iterator c.args.counts.now.entries c.args.rows.now c.loop-column.rows none
    c.into_iter-column-iterator.ensures.into_iter_gives.5 c.loop-column.invariant.size c.loop-column.invariant.rows
