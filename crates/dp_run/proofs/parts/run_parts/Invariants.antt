use Rattle.std.proofs.Common.{◌≡◌, ℕ, ◌+◌}
use Rattle.dp_tree.specs.Trace.{Run}
use Rattle.dp_crew.specs.Output.{Emits}
use Rattle.dp_run.specs.Prepared.{plans_in}
use Rattle.dp_run.specs.Stretches.{Ahead, Between, Counted, to_come}
use Rattle.dp_run.proofs.parts.run_parts.Given as goal

abbrev pub invariant-loop-region : goal.invariant-loop-region
invariant-loop-region g l = record {
  between : (run : Run) (n : ℕ) → Ahead l.fn.machine.program (plans_in l.regions) l.input l.fn.machine.fuel run n l.fn.machine →
      Between l.fn.machine.program l.input l.fn.machine.fuel run (n + l.region-index) l.machine;
  counted : (run : Run) (n : ℕ) → Ahead l.fn.machine.program (plans_in l.regions) l.input l.fn.machine.fuel run n l.fn.machine →
      Counted l.why l.fn.machine.program (plans_in l.regions) run l.region-index l.fn.reports l.reports l.fn.tally l.tally;
  emits : Emits (to_come l.fn.machine) (to_come l.machine) (g.K.Sink.written l.fn.sink) (g.K.Sink.written l.sink);
  faults : g.K.Sink.faults l.sink ≡ g.K.Sink.faults l.fn.sink;
}
