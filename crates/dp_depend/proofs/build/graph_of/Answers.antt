use Rattle.std.proofs.Common.{List, map, ap, ◌∙◌}
use Rattle.dp_depend.specs.Edges.{node_site}
use Rattle.dp_depend.specs.Node.{Node}
use Rattle.dp_depend.proofs.NodeSites.{node_sites}
use Rattle.dp_depend.proofs.build.graph_of.Goals as goal

pub edges-requires-clause-all : goal.edges-requires-clause-all
edges-requires-clause-all c = ap (λ (l : List Node). map node_site l) (c.as_slice-4.ensures ∙ c.in_ok-nodes.ensures) ∙ node_sites c.args.p.now c.args.region
