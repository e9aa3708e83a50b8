use Rattle.std.proofs.Common.{ℕ, map, ap, ◌∙◌}
use Rattle.std.specs.Option.{option_copied}
use Rattle.dp_depend.specs.Edges.{first_in_region}
use Rattle.dp_cut.specs.Automatic.{site_weight}
use Rattle.dp_cut.proofs.automatic.light_weights.Goals as goal

pub returns-clause-value : goal.returns-clause-value
returns-clause-value c =
    let profile = option_copied c.args.profile in let r = c.args.region in
    c.in_ok-weights.ensures ∙ ap (λ (f : ℕ). map (site_weight profile r f) c.as_slice.result.now) c.first_of-first.ensures
    ∙ ap (map (site_weight profile r (first_in_region c.args.p.now r))) (c.as_slice.ensures ∙ c.in_ok-nodes.ensures)
