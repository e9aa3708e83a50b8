use Rattle.std.proofs.Common.{◌≡◌, ◌++◌, drop}
use Rattle.dp_depend.specs.Lists.{node_lists}
use Rattle.dp_depend.proofs.nodes.+nodes.Given as goal

abbrev pub invariant-put_nodes-loop-statement : goal.invariant-put_nodes-loop-statement
invariant-put_nodes-loop-statement l = l.out ++ node_lists l.inside.around.now l.inside.outer_loop (drop l.statement-index l.all) ≡ l.initial.out
    ++ node_lists l.inside.around.now l.inside.outer_loop l.all
