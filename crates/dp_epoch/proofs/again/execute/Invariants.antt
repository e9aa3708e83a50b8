use Rattle.std.proofs.Common.{◌≡◌, ◌-◌, ◌++◌, List, ℤ}
use Rattle.dp_epoch.specs.Accounts.{HearsOn}
use Rattle.dp_epoch.proofs.RemadeLemmas.{SoFar}
use Rattle.dp_epoch.proofs.again.execute.Given as goal

abbrev pub invariant-calls : goal.invariant-calls
invariant-calls l = record {
  so_far : (printed : List ℤ) × SoFar l.fn.ledger.committed l.ledger.committed printed × (l.ledger.waiting ≡ l.fn.ledger.waiting ++ printed);
  account : l.ledger.account ≡ record l.fn.ledger.account { views = l.ledger.account.views };
  heard : HearsOn l.fn.ledger.committed.machine l.ledger.committed.machine l.fn.ledger.account.views l.ledger.account.views;
}

abbrev pub decreases-calls : goal.decreases-calls
decreases-calls l = l.ledger.committed.machine.fuel - l.ledger.committed.machine.steps
