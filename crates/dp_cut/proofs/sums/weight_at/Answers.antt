use Rattle.std.proofs.Common.{◌<◌, arith, length}
use Rattle.dp_cut.proofs.SumLemmas.{unit_weight_le, unit_next}
use Rattle.dp_cut.proofs.sums.weight_at.Goals as goal

pub overflow_add-total : goal.overflow_add-total
overflow_add-total c =
    let places = c.args.places.now in let weights = c.args.weights.now in let i = c.loop-node.node in
    let below : c.loop-node.node < length c.args.places.now = omega arith in
    let next = unit_next places weights c.args.place i below c.requires.each in
    let most = unit_weight_le places weights c.args.place in
    let sofar = c.loop-node.invariant in
    let small = c.requires.total in
    let one = c.share-total.ensures in
    omega (arith, next, most, sofar, small, one)

pub loop-node-preserved : goal.loop-node-preserved
loop-node-preserved c =
    let places = c.args.places.now in let weights = c.args.weights.now in let i = c.loop-node.node in
    let below : c.loop-node.node < length c.args.places.now = omega arith in
    let next = unit_next places weights c.args.place i below c.requires.each in
    let sofar = c.loop-node.invariant in
    let one = c.share-total.ensures in
    omega (arith, next, sofar, one)
