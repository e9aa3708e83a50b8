use Rattle.std.proofs.Common.{◌≡◌, ◌<◌, ℕ, []}
use Rattle.dp_units.specs.steps.Search.{IsUnseen}
use Rattle.dp_units.specs.steps.Steps.{IsGoing}
use Rattle.dp_units.proofs.leaders.searched.Given as goal

abbrev pub invariant-loop-node : goal.invariant-loop-node
invariant-loop-node l = record {
  going : IsGoing l.graph.edges.now l.graph.rows.now l.search;
  path : l.search.path.items ≡ [];
  met : (node : ℕ) → node < l.node → IsUnseen l.search.marks.items node → ⊥;
}
