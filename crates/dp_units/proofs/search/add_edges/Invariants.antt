use Rattle.std.proofs.Common.{◌≡◌, ◌++◌, drop}
use Rattle.dp_units.specs.steps.Steps.{edges_from}
use Rattle.dp_units.proofs.search.add_edges.Given as goal

abbrev pub invariant-loop-target : goal.invariant-loop-target
invariant-loop-target l = l.waiting.items ++ edges_from l.place (drop l.target-index l.row) ≡ l.initial.waiting.items ++ edges_from l.place l.row
