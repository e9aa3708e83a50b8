use Rattle.std.proofs.Common.{length, map, ap, ◌∙◌}
use Rattle.std.specs.Option.{option_copied}
use Rattle.std.proofs.lemmas.List.{length-map}
use Rattle.dp_depend.specs.Edges.{first_in_region}
use Rattle.dp_depend.specs.Node.{region_nodes}
use Rattle.dp_cut.specs.Automatic.{node_pair, site_weight}
use Rattle.dp_cut.proofs.AutomaticPlans.{automatic_made}
use Rattle.dp_cut.proofs.automatic.least_plan.Goals as goal

pub returns : goal.returns
returns c =
    let p = c.args.p.now in let r = c.args.region in let profile = option_copied c.args.wishes.profile in
    let weights_are = c.as_slice-loads.ensures ∙ c.in_ok-weights.ensures.value in
    automatic_made p r profile c.args.wishes.rate c.args.wishes.stages c.args.wishes.workers c.in_ok-plan.plan
    c.in_ok-units.units.order c.in_ok-units.units.place_of c.as_slice-loads.result.now c.in_ok-count.count
    (map (node_pair (first_in_region c.args.p.now c.args.region)) c.in_ok-graph.graph.edges) c.in_ok-graph.graph.edges c.in_ok-graph.graph.chosen
    (c.in_ok-count.ensures.value ∙ ap length weights_are ∙ length-map (region_nodes p r) (site_weight profile r (first_in_region p r)))
    (ap (map (node_pair (first_in_region c.args.p.now c.args.region))) c.in_ok-graph.ensures.edges)
    weights_are c.in_ok-graph.ensures.edges c.in_ok-graph.ensures.chosen c.in_ok-units.ensures.order c.in_ok-units.ensures.places c.in_ok-plan.ensures
