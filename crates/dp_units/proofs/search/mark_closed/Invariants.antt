use Rattle.std.proofs.Common.{take}
use Rattle.dp_units.specs.steps.Search.{IsMarked}
use Rattle.dp_units.proofs.search.mark_closed.Given as goal

abbrev pub invariant-loop-node : goal.invariant-loop-node
invariant-loop-node l = IsMarked l.initial.marks l.marks (take l.node-index l.nodes) l.unit
