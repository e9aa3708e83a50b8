use Rattle.std.proofs.Common.{ℕ, ◌<◌, ◌≤◌}
use Rattle.dp_units.specs.steps.Entries.{At, Has}
use Rattle.dp_units.proofs.search.least.Given as goal

abbrev pub invariant-loop-node : goal.invariant-loop-node
invariant-loop-node l = record { member : Has l.nodes l.least; least : (i node : ℕ) → i < l.node-index → At l.nodes i node → l.least ≤ node }
