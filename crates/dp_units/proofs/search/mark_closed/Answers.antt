use Rattle.std.proofs.Common.{◌<◌, ℕ, List, length, arith, slice_index_or}
use Rattle.dp_units.proofs.LoopLemmas.{marked_more, item_at}
use Rattle.dp_units.proofs.search.mark_closed.Goals as goal

pub loop-node-preserved : goal.loop-node-preserved
loop-node-preserved c =
    let nodes : List ℕ = c.args.nodes.now in
    let i : ℕ = c.loop-node.node-index in
    let h : i < length nodes = omega arith in
    marked_more c.args.marks.now c.loop-node.marks nodes i c.args.unit h (c.requires i (slice_index_or nodes i 0) (item_at nodes i 0 h)) c.loop-node.invariant
