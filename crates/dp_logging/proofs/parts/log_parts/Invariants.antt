use Rattle.std.proofs.Common.{◌≡◌, ℕ, ◌+◌, ◌++◌, drop}
use Rattle.dp_tree.specs.Trace.{Run}
use Rattle.dp_log.specs.LogText.{logged_regions}
use Rattle.dp_run.specs.Prepared.{plans_in}
use Rattle.dp_run.specs.Stretches.{Ahead, Between}
use Rattle.dp_logging.specs.Pouring.{Pours}
use Rattle.dp_logging.proofs.parts.log_parts.Given as goal

abbrev pub invariant-loop-region : goal.invariant-loop-region
invariant-loop-region g l = record {
  between : (run : Run) (n : ℕ) → Ahead l.fn.machine.program (plans_in l.regions) l.input l.fn.machine.fuel run n l.fn.machine →
      Between l.fn.machine.program l.input l.fn.machine.fuel run (n + l.region-index) l.machine;
  pours : (run : Run) (n : ℕ) → Ahead l.fn.machine.program (plans_in l.regions) l.input l.fn.machine.fuel run n l.fn.machine →
      Pours (l.fn.out ++ logged_regions l.fn.machine.program (plans_in l.regions) run)
      (l.out ++ logged_regions l.fn.machine.program (drop l.region-index (plans_in l.regions)) run) (g.K.Sink.written l.fn.sink) (g.K.Sink.written l.sink);
  faults : g.K.Sink.faults l.sink ≡ g.K.Sink.faults l.fn.sink;
}
