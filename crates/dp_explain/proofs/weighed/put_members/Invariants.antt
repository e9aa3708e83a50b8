use Rattle.std.proofs.Common.{◌≡◌, ◌++◌, drop}
use Rattle.dp_explain.specs.UnitText.{members_text}
use Rattle.dp_explain.proofs.weighed.put_members.Given as goal

abbrev pub invariant-loop-node : goal.invariant-loop-node
invariant-loop-node l =
    l.out ++ members_text l.places l.first (drop l.node-index l.nodes) l.place ≡ l.initial.out ++ members_text l.places l.first l.nodes l.place
