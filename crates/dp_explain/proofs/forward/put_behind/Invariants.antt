use Rattle.std.proofs.Common.{◌≡◌, ◌++◌, drop}
use Rattle.dp_explain.specs.ForwardText.{lines_behind}
use Rattle.dp_explain.proofs.forward.put_behind.Given as goal

abbrev pub invariant-loop-edge : goal.invariant-loop-edge
invariant-loop-edge l = l.out ++ lines_behind l.p l.plan l.first l.nodes (drop l.edge-index l.edges) l.stage ≡ l.initial.out ++ lines_behind l.p l.plan l.first
    l.nodes l.edges l.stage
