use Rattle.std.proofs.Common.{◌+◌, arith}
use Rattle.dp_least_cut.proofs.Weights.{weight_more, weight_low}
use Rattle.dp_least_cut.proofs.places.weight_of.Goals as goal

pub overflow_add-weight : goal.overflow_add-weight
overflow_add-weight c =
    let e = weight_more c.args.weights.now c.args.begin c.loop-unit.unit (omega arith) (omega arith) in
    let low = weight_low c.args.weights.now c.args.begin (c.loop-unit.unit + 1) in
    omega (arith, e, low, c.requires.total)
