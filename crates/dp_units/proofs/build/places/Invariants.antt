use Rattle.std.proofs.Common.{◌≡◌, ◌<◌, ℕ, length, slice_index}
use Rattle.dp_units.proofs.build.places.Given as goal

abbrev pub invariant-loop-leader : goal.invariant-loop-leader
invariant-loop-leader l = record {
  each : length l.places.items ≡ l.leader-index;
  made : (node : ℕ) → node < l.leader-index → slice_index l.places.items node ≡ slice_index l.place_of (slice_index l.leader_of node);
}
