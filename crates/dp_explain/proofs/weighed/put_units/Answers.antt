use Rattle.std.proofs.Common.{ℕ, ◌+◌, ◌-◌, ◌<◌, List, ◌++◌, ap, arith}
use Rattle.std.specs.List.{flat_map}
use Rattle.dp_tree.specs.Numbering.{numbers_from}
use Rattle.dp_plan.proofs.Joins.{joins_more}
use Rattle.dp_cut.proofs.SumLemmas.{count_next}
use Rattle.dp_explain.specs.UnitText.{unit_line, unit_lines}
use Rattle.dp_explain.proofs.weighed.put_units.Goals as goal

pub loop-place-preserved : goal.loop-place-preserved
loop-place-preserved c =
    let f : ℕ → List ℕ = unit_line c.args.places.now c.args.weights.now c.args.first c.args.nodes.now in
    let at = c.loop-place.place in let count = c.args.count in
    let below : c.loop-place.place < c.args.count = omega (arith, c.loop-place-test.true) in
    joins_more (c.args.out.now ++ unit_lines c.args.places.now c.args.weights.now c.args.first c.args.nodes.now c.args.count)
    c.loop-place.out c.put_unit.new.out
    (flat_map f (numbers_from at (count - at))) (f at) (flat_map f (numbers_from (at + 1) (count - (at + 1))))
    c.loop-place.invariant (ap (flat_map f) (count_next at count below)) c.in_ok-put_unit.ensures
