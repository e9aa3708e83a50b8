use Rattle.std.proofs.Common.{◌≡◌, ◌++◌, drop}
use Rattle.dp_explain.specs.EdgeText.{edge_texts}
use Rattle.dp_explain.proofs.edges.put_edges.Given as goal

abbrev pub invariant-loop-edge : goal.invariant-loop-edge
invariant-loop-edge l =
    l.out ++ edge_texts l.label l.p l.first l.nodes (drop l.edge-index l.edges) ≡ l.initial.out ++ edge_texts l.label l.p l.first l.nodes l.edges
