use Rattle.std.proofs.Common.{ℕ}
use Rattle.dp_units.specs.steps.Search.{IsUnseen}
use Rattle.dp_units.specs.steps.Steps.{IsGoing, work_left}
use Rattle.dp_units.proofs.search.Search.explore.Given as goal

abbrev pub invariant-loop-bottom : goal.invariant-loop-bottom
invariant-loop-bottom l = record {
  going : IsGoing l.graph.edges.now l.graph.rows.now l.self;
  met : (node : ℕ) → IsUnseen l.self.marks.items node → IsUnseen l.initial.self.marks.items node;
}

abbrev pub decreases-loop-bottom : goal.decreases-loop-bottom
decreases-loop-bottom l = work_left l.graph.rows.now l.self
