use Rattle.std.proofs.Common.{◌≡◌, ◌+◌}
use Rattle.dp_meaning.specs.MachineState.{MachineState}
use Rattle.dp_epoch.specs.Applied.{HasRoomForVerdicts, steps_left}
use Rattle.dp_epoch.specs.InEpoch.{ToBegin}
use Rattle.dp_epoch.specs.Prints.{prints_to_come}
use Rattle.dp_crew.specs.Output.{Emits}
use Rattle.dp_crew.proofs.epochs.run_epochs.Given as goal

abbrev pub invariant-epochs : goal.invariant-epochs
invariant-epochs g l = record {
  begins : (first : MachineState) → ToBegin l.fn.work.region.now.program l.fn.work.region.now.plan l.fn.work.input.now first l.fn.ledger.committed
      l.fn.ledger.account → ToBegin l.fn.work.region.now.program l.fn.work.region.now.plan l.fn.work.input.now first l.ledger.committed l.ledger.account;
  tally : l.tally + l.ledger.account.report.recovered_count + l.fn.ledger.account.report.iterations ≡ l.fn.tally + l.ledger.account.report.iterations
      + l.fn.ledger.account.report.recovered_count;
  why : l.ledger.account.why ≡ l.fn.ledger.account.why;
  room : HasRoomForVerdicts l.tally l.ledger.committed;
  emits : (first : MachineState) → ToBegin l.fn.work.region.now.program l.fn.work.region.now.plan l.fn.work.input.now first l.fn.ledger.committed
      l.fn.ledger.account →
      Emits (prints_to_come l.fn.work.region.now.plan first l.fn.ledger.waiting l.fn.ledger.committed.count)
      (prints_to_come l.fn.work.region.now.plan first l.ledger.waiting l.ledger.committed.count) (g.K.Sink.written l.fn.sink) (g.K.Sink.written l.sink);
  faults : g.K.Sink.faults l.sink ≡ g.K.Sink.faults l.fn.sink;
}

abbrev pub decreases-epochs : goal.decreases-epochs
decreases-epochs g l = steps_left l.ledger.committed
