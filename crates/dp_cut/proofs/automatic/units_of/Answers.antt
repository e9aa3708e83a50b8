use Rattle.std.proofs.Common.{◌≡◌, ℕ, List, map, ap, subst, ◌∙◌}
use Rattle.dp_depend.specs.Edges.{first_in_region}
use Rattle.dp_units.specs.Order.{ArePlaces, IsOrder}
use Rattle.dp_cut.specs.Automatic.{node_pair}
use Rattle.dp_cut.proofs.automatic.units_of.Goals as goal

pub returns-clause-order : goal.returns-clause-order
returns-clause-order c =
    let same : c.as_slice.result.now ≡ map (node_pair (first_in_region c.args.p.now c.args.region)) c.args.graph.now.edges =
    c.as_slice.ensures ∙ c.in_ok-pairs.ensures.value ∙ ap (λ (f : ℕ). map (node_pair f) c.edges.result.now) c.first_of-first.ensures
    ∙ ap (map (node_pair (first_in_region c.args.p.now c.args.region))) c.edges.ensures in
    subst (λ (es : List (ℕ × ℕ)). IsOrder c.args.count es c.in_ok-units.units.order) same c.in_ok-units.ensures.order

pub returns-clause-places : goal.returns-clause-places
returns-clause-places c =
    let same : c.as_slice.result.now ≡ map (node_pair (first_in_region c.args.p.now c.args.region)) c.args.graph.now.edges =
    c.as_slice.ensures ∙ c.in_ok-pairs.ensures.value ∙ ap (λ (f : ℕ). map (node_pair f) c.edges.result.now) c.first_of-first.ensures
    ∙ ap (map (node_pair (first_in_region c.args.p.now c.args.region))) c.edges.ensures in
    subst (λ (es : List (ℕ × ℕ)). ArePlaces c.args.count es c.in_ok-units.units.order c.in_ok-units.units.place_of) same c.in_ok-units.ensures.places
