use Rattle.std.proofs.Common.{◌≡◌, ◌++◌, drop}
use Rattle.dp_explain.specs.CheckText.{compared_lines}
use Rattle.dp_explain.proofs.checks.put_compared.Given as goal

abbrev pub invariant-loop-pair : goal.invariant-loop-pair
invariant-loop-pair l = l.out ++ compared_lines l.p l.first l.nodes (drop l.pair-index l.pairs) ≡ l.initial.out ++ compared_lines l.p l.first l.nodes l.pairs
