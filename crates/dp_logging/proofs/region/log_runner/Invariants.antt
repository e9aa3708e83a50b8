use Rattle.std.proofs.Common.{◌≡◌, ℕ, List, ℤ, ◌++◌}
use Rattle.dp_tree.specs.declared.Program.{Program as Tree}
use Rattle.dp_plan.specs.declared.Plan.{Plan as PlanValue}
use Rattle.dp_log.specs.LogText.{region_bytes}
use Rattle.dp_meaning.specs.MachineState.{MachineState}
use Rattle.dp_epoch.specs.Applied.{steps_left}
use Rattle.dp_epoch.specs.RegionRun.{region_run}
use Rattle.dp_audit.specs.Runs.{RegionStands}
use Rattle.dp_logging.specs.Lines.{left_lines}
use Rattle.dp_logging.specs.Pouring.{Pours}
use Rattle.dp_logging.proofs.region.log_runner.Given as goal

abbrev pub invariant-iterations : goal.invariant-iterations
invariant-iterations g l = record {
  so_far : (p : Tree) (plan : PlanValue) (input : List ℤ) (first : MachineState) → plan.region ≡ l.region → RegionStands p plan input first 0 l.fn.runner →
      (n : ℕ) × RegionStands p plan input first n l.runner × Pours (l.fn.out ++ region_bytes p plan (region_run first))
      (l.out ++ left_lines p plan (region_run first) n) (g.K.Sink.written l.fn.sink) (g.K.Sink.written l.sink);
  faults : g.K.Sink.faults l.sink ≡ g.K.Sink.faults l.fn.sink;
}

abbrev pub decreases-iterations : goal.decreases-iterations
decreases-iterations g l = steps_left l.runner.ledger.committed
