use Rattle.std.proofs.Common.{ℕ, ◌≤◌, length}
use Rattle.dp_units.specs.steps.Entries.{Has, Rises}
use Rattle.dp_units.proofs.search.join_above.Given as goal

abbrev pub invariant-loop-bottom : goal.invariant-loop-bottom
invariant-loop-bottom l = record {
  rising : Rises l.bottoms.items;
  kept : (bottom : ℕ) → Has l.bottoms.items bottom → Has l.initial.bottoms.items bottom;
  all : (bottom : ℕ) → Has l.initial.bottoms.items bottom → bottom ≤ l.place → Has l.bottoms.items bottom;
}

abbrev pub decreases-loop-bottom : goal.decreases-loop-bottom
decreases-loop-bottom l = length l.bottoms.items
