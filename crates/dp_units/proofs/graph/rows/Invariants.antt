use Rattle.std.proofs.Common.{◌≡◌, ◌++◌, ℕ, Vec, drop, length}
use Rattle.std.specs.declared.alloc.Global.{Global}
use Rattle.dp_units.specs.steps.Entries.{At}
use Rattle.dp_units.specs.steps.Rows.{targets}
use Rattle.dp_units.proofs.graph.rows.Given as goal

abbrev pub invariant-loop-from : goal.invariant-loop-from
invariant-loop-from l = record {
  count : length l.rows.items ≡ l.count;
  targets : (node : ℕ) (row : Vec ℕ Global) → At l.rows.items node row → row.items ++ targets (drop l.from-index l.edges) node ≡ targets l.edges node;
}
