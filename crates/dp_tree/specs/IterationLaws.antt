-- What iterations amount to: they follow each other without a gap and without overlap.
use Rattle.std.specs.Prelude.{◌≡◌, ℕ, zero, suc, ◌<◌, ◌≤◌, List, [], ◌++◌, ℤ, length, Some, None, slice_range}
use Rattle.dp_tree.specs.declared.Program.{Program}
use Rattle.dp_tree.specs.Step.{Config, Event}
use Rattle.dp_tree.specs.Trace.{Run, run_of}
use Rattle.dp_tree.specs.Iteration.{start, stop_from, iteration}

-- the events of the first n iterations, one iteration after the other
abbrev pub events_of_first : Run → ℕ → ℕ → List Event
events_of_first run r zero = []
events_of_first run r (suc n) = events_of_first run r n ++ iteration run r n

-- the iterations of region r in this run
pub record AreAdjacent (run : Run) (r : ℕ) : Type 0 where
  -- iteration i that starts at k has its events from there on, up to where the next one starts
  pub ascending : (i k next : ℕ) → start run r i ≡ Some k → start run r (suc i) ≡ Some next → k < next
  pub within : (i k : ℕ) → start run r i ≡ Some k → k ≤ length run.trace
  pub unreached : (i : ℕ) → start run r i ≡ None → iteration run r i ≡ []
  -- together, those up to one that is reached are the trace from the first start to where that one stops
  pub joined : (first i k : ℕ) → start run r 0 ≡ Some first → start run r i ≡ Some k →
      events_of_first run r (suc i) ≡ slice_range run.trace first (stop_from run k (start run r (suc i)))

-- In each run the iterations of each region are adjacent.
abbrev pub IterationsAdjoin : Program → List ℤ → Type 0
IterationsAdjoin p input = (fuel : ℕ) (c : Config) (r : ℕ) → AreAdjacent (run_of p input fuel c) r
