use Rattle.std.proofs.Common.{◌≡◌, ℕ, ◌+◌, drop}
use Rattle.dp_observe.specs.steps.Columns.{at_column}
use Rattle.dp_observe.specs.steps.Frames.{loads_at}
use Rattle.dp_observe.proofs.tally.Tally.load_all.Given as goal

abbrev pub invariant-loop-cell : goal.invariant-loop-cell
invariant-loop-cell l = record {
  count : l.self.count ≡ l.fn.self.count;
  shown : (k : ℕ) → at_column l.self.shown k + loads_at l.frame l.writers l.locals k (drop l.cell-index l.cells) ≡ at_column l.fn.self.shown k + loads_at
      l.frame l.writers l.locals k l.cells;
}
