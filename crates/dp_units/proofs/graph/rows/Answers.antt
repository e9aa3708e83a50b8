use Rattle.std.proofs.Common.{◌<◌, ℕ, List, Vec, length, refl, sym, subst, ◌∙◌, arith, slice_index_or}
use Rattle.std.specs.declared.alloc.Global.{Global}
use Rattle.std.proofs.Math.ListN.{length-set}
use Rattle.std.proofs.lemmas.Option.{slice_get_read}
use Rattle.dp_units.specs.steps.Entries.{At}
use Rattle.dp_units.proofs.LoopLemmas.{row_more, is_graph}
use Rattle.dp_units.proofs.graph.rows.Goals as goal

pub loop-from-preserved : goal.loop-from-preserved
loop-from-preserved c =
    let rows : List (Vec ℕ Global) = c.loop-from.rows.items in
    let edges : List (ℕ × ℕ) = c.args.edges.now in
    let i : ℕ = c.loop-from.from-index in
    let edge : ℕ × ℕ = slice_index_or edges i (0, 0) in
    let h : i < length edges = omega arith in
    let low : edge.0 < length rows = subst (λ k. edge.0 < k) (sym c.loop-from.invariant.count) (c.requires i (0, 0) h).0 in
    let there : At rows edge.0 c.index_mut.result.now = slice_get_read rows (length rows) edge.0 c.index_mut.result.now refl low c.index_mut.ensures.value in
    record {
      count = length-set rows edge.0 c.add.new.row ∙ c.loop-from.invariant.count;
      targets = row_more rows edges i edge.0 edge.1 c.index_mut.result.now c.add.new.row h refl low there c.in_ok-add.ensures c.loop-from.invariant.targets;
    }

pub returns-clause-graph : goal.returns-clause-graph
returns-clause-graph c = is_graph c.args.edges.now c.loop-from.rows.items c.args.count c.loop-from.from-index c.loop-from.invariant.count c.requires
    (omega arith) c.loop-from.invariant.targets
