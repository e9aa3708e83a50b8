use Rattle.std.proofs.Common.{◌≡◌, ◌+◌, ◌-◌, ◌++◌, length}
use Rattle.std.specs.List.{flat_map}
use Rattle.dp_tree.specs.Numbering.{numbers_from}
use Rattle.dp_explain.specs.ForwardText.{forward_lines, lines_behind}
use Rattle.dp_explain.proofs.forward.put_forwards.Given as goal

abbrev pub invariant-loop-place : goal.invariant-loop-place
invariant-loop-place l =
    l.out ++ flat_map (lines_behind l.p l.plan l.first l.nodes l.edges) (numbers_from (l.place + 1) (length l.plan.stages - l.place))
    ≡ l.initial.out ++ forward_lines l.p l.plan l.first l.nodes l.edges
