use Rattle.std.proofs.Common.{take}
use Rattle.dp_units.specs.steps.Leaders.{AreBetween}
use Rattle.dp_units.proofs.between.edges_between.Given as goal

abbrev pub invariant-loop-from : goal.invariant-loop-from
invariant-loop-from l = AreBetween (take l.from-index l.edges) l.leader_of l.between.items
