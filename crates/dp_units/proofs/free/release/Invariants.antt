use Rattle.std.proofs.Common.{◌≡◌, ◌≢◌, ◌⊎◌, ◌<◌, ◌+◌, ℕ, length, take, slice_index}
use Rattle.dp_units.specs.steps.Entries.{Has, times}
use Rattle.dp_units.proofs.free.release.Given as goal

abbrev pub invariant-loop-node : goal.invariant-loop-node
invariant-loop-node l = record {
  less : (node : ℕ) → node < length l.initial.waits → slice_index l.waits node + times (take l.node-index l.row) node ≡ slice_index l.initial.waits node;
  from : (node : ℕ) → Has l.free.keys node → Has l.initial.free.keys node ⊎ ((times (take l.node-index l.row) node ≢ 0) × (slice_index l.waits node ≡ 0));
  kept : (node : ℕ) → Has l.initial.free.keys node → Has l.free.keys node;
  added : (node : ℕ) → times (take l.node-index l.row) node ≢ 0 → slice_index l.waits node ≡ 0 → Has l.free.keys node;
}
