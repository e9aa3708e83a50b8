use Rattle.std.proofs.Common.{◌<◌, refl, arith, ℕ, List, length, slice_index_or}
use Rattle.dp_units.proofs.BetweenLemmas.{between_more}
use Rattle.dp_units.proofs.between.edges_between.Goals as goal

pub loop-from-preserved : goal.loop-from-preserved
loop-from-preserved c =
    let edges : List (ℕ × ℕ) = c.args.edges.now in
    let i : ℕ = c.loop-from.from-index in
    let edge : ℕ × ℕ = slice_index_or edges i (0, 0) in
    let h : i < length edges = omega arith in
    between_more edges c.args.leader_of.now i c.loop-from.between.items c.add_edge.new.between.items edge.0 edge.1 h refl c.in_ok-add_edge.ensures.same
    c.in_ok-add_edge.ensures.apart c.loop-from.invariant
