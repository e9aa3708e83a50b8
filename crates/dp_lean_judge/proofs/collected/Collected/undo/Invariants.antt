use Rattle.std.proofs.Common.{◌≡◌, length}
use Rattle.dp_lean_judge.specs.Collecting.{undone}
use Rattle.dp_lean_judge.proofs.collected.Collected.undo.Given as goal

abbrev pub invariant-loop-store : goal.invariant-loop-store
invariant-loop-store l = record {
  cells : undone l.self.before l.cells ≡ undone l.initial.self.before l.initial.cells;
  stores : l.self.stores ≡ l.initial.self.stores;
  prints : l.self.prints ≡ l.initial.self.prints;
}

abbrev pub decreases-loop-store : goal.decreases-loop-store
decreases-loop-store l = length l.self.before
