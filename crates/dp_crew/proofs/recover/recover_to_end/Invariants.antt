use Rattle.std.proofs.Common.{◌≡◌, ◌-◌, ◌++◌, List, ℤ}
use Rattle.dp_crew.specs.Output.{Emits}
use Rattle.dp_epoch.specs.Accounts.{HearsOn}
use Rattle.dp_epoch.proofs.RemadeLemmas.{SoFar}
use Rattle.dp_crew.proofs.recover.recover_to_end.Given as goal

abbrev pub invariant-calls : goal.invariant-calls
invariant-calls g l = record {
  so_far : (printed : List ℤ) × SoFar l.fn.ledger.committed l.ledger.committed printed × Emits (l.fn.ledger.waiting ++ printed) l.ledger.waiting
      (g.K.Sink.written l.fn.sink) (g.K.Sink.written l.sink);
  account : l.ledger.account ≡ record l.fn.ledger.account { views = l.ledger.account.views };
  heard : HearsOn l.fn.ledger.committed.machine l.ledger.committed.machine l.fn.ledger.account.views l.ledger.account.views;
  faults : g.K.Sink.faults l.sink ≡ g.K.Sink.faults l.fn.sink;
}

abbrev pub decreases-calls : goal.decreases-calls
decreases-calls g l = l.ledger.committed.machine.fuel - l.ledger.committed.machine.steps
