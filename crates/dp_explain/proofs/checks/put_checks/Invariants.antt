use Rattle.std.proofs.Common.{◌≡◌, ◌++◌, drop}
use Rattle.dp_explain.specs.CheckText.{check_lines}
use Rattle.dp_explain.proofs.checks.put_checks.Given as goal

abbrev pub invariant-loop-node : goal.invariant-loop-node
invariant-loop-node l = l.out ++ check_lines l.p l.plan (drop l.node-index l.nodes) ≡ l.initial.out ++ check_lines l.p l.plan l.nodes
