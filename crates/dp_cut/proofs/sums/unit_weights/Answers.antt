use Rattle.std.proofs.Common.{◌<◌, ◌+◌, ◌-◌, ◌++◌, ◌∷◌, [], ap, ◌∙◌, arith, ℕ, map}
use Rattle.dp_tree.specs.Numbering.{numbers_from}
use Rattle.dp_plan.proofs.Joins.{joins_more}
use Rattle.dp_cut.specs.LeastPlan.{unit_weight, unit_weights}
use Rattle.dp_cut.proofs.SumLemmas.{count_next}
use Rattle.dp_cut.proofs.sums.unit_weights.Goals as goal

pub loop-place-preserved : goal.loop-place-preserved
loop-place-preserved c =
    let f : ℕ → ℕ = unit_weight c.args.places.now c.args.weights.now in
    let at = c.loop-place.place in let count = c.args.count in
    let below : c.loop-place.place < c.args.count = omega arith in
    joins_more (unit_weights count c.args.places.now c.args.weights.now) c.loop-place.units c.push.new.self (map f (numbers_from at (count - at))) (f at ∷ [])
    (map f (numbers_from (at + 1) (count - (at + 1))))
    c.loop-place.invariant (ap (map f) (count_next at count below)) (c.in_ok-push.ensures.ok ∙ ap (λ (w : ℕ). c.loop-place.units ++ w ∷ []) c.weight_at.ensures)
