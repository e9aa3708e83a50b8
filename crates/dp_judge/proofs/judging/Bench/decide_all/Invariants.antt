use Rattle.std.proofs.Common.{◌≤◌, ℕ}
use Rattle.dp_lean_judge.specs.Ready.{AllKept}
use Rattle.dp_lean_region.specs.LeanEpoch.{LeanEpoch}
use Rattle.dp_judge.specs.Decided.{cleans}
use Rattle.dp_judge.specs.steps.Adding.{IsUngiven}
use Rattle.dp_judge.specs.steps.Within.{CameIn, JudgesBy, Within}
use Rattle.dp_judge.proofs.judging.Bench.decide_all.Given as goal

abbrev pub invariant-loop-place : goal.invariant-loop-place
invariant-loop-place l =
    AllKept l.readers l.tables.ready.now.entries
    × IsUngiven l.told
    × (l.place ≤ l.iterations)
    × ((e : LeanEpoch) (b : ℕ) → CameIn e b l.iterations l.stages → JudgesBy e l.tables →
    Within e b l.iterations 0 l.initial.self.left l.initial.self.cells l.initial.readers (cleans l.initial.told) →
    Within e b l.iterations l.place l.self.left l.self.cells l.readers (cleans l.told))
