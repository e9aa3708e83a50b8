use Rattle.std.proofs.Common.{◌≡◌, ◌-◌, ◌++◌}
use Rattle.dp_crew.specs.Output.{Emits}
use Rattle.dp_run.specs.Stretches.{to_come}
use Rattle.dp_run.proofs.PartLemmas.{PartSoFar}
use Rattle.dp_run.proofs.plain.finish_plain.Given as goal

abbrev pub invariant-calls : goal.invariant-calls
invariant-calls g l = record {
  so_far : PartSoFar l.fn.machine l.machine;
  emits : Emits (l.fn.waiting ++ to_come l.fn.machine) (l.waiting ++ to_come l.machine) (g.K.Sink.written l.fn.sink) (g.K.Sink.written l.sink);
  faults : g.K.Sink.faults l.sink ≡ g.K.Sink.faults l.fn.sink;
  tally : l.tally ≡ l.fn.tally;
}

abbrev pub decreases-calls : goal.decreases-calls
decreases-calls g l = l.machine.fuel - l.machine.steps
