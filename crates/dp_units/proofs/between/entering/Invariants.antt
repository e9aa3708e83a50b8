use Rattle.std.proofs.Common.{◌≡◌, ◌<◌, ◌+◌, ℕ, length, drop, replicate, slice_index}
use Rattle.dp_units.specs.steps.Rows.{waits_for}
use Rattle.dp_units.proofs.between.entering.Given as goal

abbrev pub invariant-loop-edge : goal.invariant-loop-edge
invariant-loop-edge l = record {
  each : length l.waits.items ≡ l.count;
  counts : (node : ℕ) → node < l.count → slice_index l.waits.items node + waits_for l.count (replicate l.count l.count) (drop l.edge-index l.edges) node
      ≡ waits_for l.count (replicate l.count l.count) l.edges node;
}
