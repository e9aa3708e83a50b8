use Rattle.std.proofs.Common.{◌≡◌, length, sum, ap, ◌∙◌, arith}
use Rattle.dp_cut.specs.LeastPlan.{unit_weights}
use Rattle.dp_cut.proofs.SumLemmas.{units_length, units_total}
use Rattle.dp_cut.proofs.plan.cut.Goals as goal

pub cut_units-requires-clause-count : goal.cut_units-requires-clause-count
cut_units-requires-clause-count c =
    let is : c.as_slice.result.now ≡ unit_weights (length c.order.result.now) c.places-places.result.now c.args.weights.now = c.as_slice.ensures
    ∙ c.in_ok-sums.ensures in
    let long = ap length is ∙ units_length (length c.order.result.now) c.places-places.result.now c.args.weights.now in
    let same = ap length c.order.ensures in
    omega (arith, long, same, c.requires.count)

pub cut_units-requires-clause-total : goal.cut_units-requires-clause-total
cut_units-requires-clause-total c =
    let is : c.as_slice.result.now ≡ unit_weights (length c.order.result.now) c.places-places.result.now c.args.weights.now = c.as_slice.ensures
    ∙ c.in_ok-sums.ensures in
    let same = ap sum is in
    let most = units_total (length c.order.result.now) c.places-places.result.now c.args.weights.now in
    omega (arith, same, most, c.requires.total)
