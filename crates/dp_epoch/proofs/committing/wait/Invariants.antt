use Rattle.std.proofs.Common.{◌≡◌, ◌++◌, drop}
use Rattle.dp_epoch.proofs.committing.wait.Given as goal

abbrev pub invariant-loop-print : goal.invariant-loop-print
invariant-loop-print l = l.waiting ++ drop l.print-index l.prints ≡ l.fn.waiting ++ l.prints
