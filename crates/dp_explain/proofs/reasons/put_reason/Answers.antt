use Rattle.std.proofs.Common.{◌≡◌, ℕ, List, ◌++◌, length, map, ap, ◌∙◌, subst, append_assoc}
use Rattle.std.proofs.lemmas.List.{length-map}
use Rattle.std.specs.Option.{option_copied}
use Rattle.dp_profile.specs.declared.sites.RegionSite.{RegionSite}
use Rattle.dp_profile.specs.Sites.{regions}
use Rattle.dp_depend.specs.declared.Edge.{Edge}
use Rattle.dp_depend.specs.declared.nodes.Node.{Node}
use Rattle.dp_depend.specs.Edges.{edges_of, first_in_region}
use Rattle.dp_depend.specs.Node.{region_nodes}
use Rattle.dp_units.specs.Order.{ArePlaces, IsOrder}
use Rattle.dp_cut.specs.Automatic.{node_pair, node_pairs, site_weight, weights_of}
use Rattle.dp_explain.specs.Reasons.{minded_with, plain_text}
use Rattle.dp_explain.specs.ShownText.{shown_lines}
use Rattle.dp_explain.proofs.reasons.put_reason.Goals as goal

joined : (a p m more s shown one two three : List ℕ) → one ≡ a ++ p → two ≡ one ++ m → three ≡ two ++ s → m ≡ more → s ≡ shown →
    three ≡ a ++ (p ++ (more ++ shown))
joined a p m more s shown one two three e f g same like =
    g ∙ ap (λ (l : List ℕ). l ++ s) (f ∙ ap (λ (l : List ℕ). l ++ m) e) ∙ append_assoc (a ++ p) m s ∙ append_assoc a p (m ++ s)
    ∙ ap (λ (l : List ℕ). a ++ (p ++ (l ++ s))) same ∙ ap (λ (l : List ℕ). a ++ (p ++ (more ++ l))) like

pub returns : goal.returns
returns c =
    let p = c.args.p.now in let r = c.args.plan.now.region in let profile = option_copied c.args.profile in let rate = c.args.rate in
    let units = c.in_ok-units.units in
    let nodes_are = c.as_slice-nodes.ensures ∙ c.in_ok-found.ensures in
    let loads_are = c.as_slice-loads.ensures ∙ c.in_ok-weights.ensures.value in
    let edges_are = c.edges-edges.ensures ∙ c.in_ok-graph.ensures.edges in
    let many : c.in_ok-count.count ≡ length (region_nodes c.args.p.now c.args.plan.now.region) =
    c.in_ok-count.ensures.value ∙ ap length loads_are ∙ length-map (region_nodes p r) (site_weight profile r (first_in_region p r)) in
    let pairs_are = ap (map (node_pair (first_in_region c.args.p.now c.args.plan.now.region))) c.in_ok-graph.ensures.edges in
    record {
      units = c.in_ok-units.units;
      are = record {
        ordered = subst (λ (n : ℕ). IsOrder n (node_pairs p r profile rate) units.order) many
            (subst (λ (es : List (ℕ × ℕ)). IsOrder c.in_ok-count.count es units.order) pairs_are c.in_ok-units.ensures.order);
        placed = subst (λ (n : ℕ). ArePlaces n (node_pairs p r profile rate) units.order units.place_of) many
            (subst (λ (es : List (ℕ × ℕ)). ArePlaces c.in_ok-count.count es units.order units.place_of) pairs_are c.in_ok-units.ensures.places);
      };
      text =
          joined c.args.out.now (plain_text p c.args.plan.now) _ (minded_with p c.args.plan.now (first_in_region p r) (region_nodes p r)
          (edges_of p r profile rate) (weights_of p r profile) units) _ (shown_lines (regions c.args.p.now) r profile) _ _ _
          c.in_ok-put_plain.ensures c.in_ok-put_minded.ensures c.in_ok-put_shown.ensures
          (ap (λ (ns : List Node). minded_with p c.args.plan.now (first_in_region p r) ns c.edges-edges.result.now c.as_slice-loads.result.now units) nodes_are
          ∙ ap (λ (es : List Edge). minded_with p c.args.plan.now (first_in_region p r) (region_nodes p r) es c.as_slice-loads.result.now units) edges_are
          ∙ ap (λ (ws : List ℕ). minded_with p c.args.plan.now (first_in_region p r) (region_nodes p r) (edges_of p r profile rate) ws units) loads_are)
          (ap (λ (all : List (List RegionSite)). shown_lines all r profile) c.requires);
    }
