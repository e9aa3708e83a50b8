use Rattle.std.proofs.Common.{length}
use Rattle.dp_meaning.specs.MachineState.{rest_of_run}
use Rattle.dp_observe.proofs.RunLemmas.{Running}
use Rattle.dp_observe.proofs.watching.run.Given as goal

abbrev pub invariant-loop-loads : goal.invariant-loop-loads
invariant-loop-loads l = record { so : Running l.fn.machine l.machine l.fn.board l.board }

abbrev pub decreases-loop-loads : goal.decreases-loop-loads
decreases-loop-loads l = length (rest_of_run l.machine).trace
