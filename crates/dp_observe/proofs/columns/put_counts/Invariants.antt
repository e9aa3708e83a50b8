use Rattle.std.proofs.Common.{◌≡◌, ℕ, ◌++◌, ◌<◌, length, Some, slice_get}
use Rattle.dp_profile.specs.declared.sites.RegionSite.{RegionSite}
use Rattle.dp_observe.specs.steps.Taken.{row_at}
use Rattle.dp_observe.proofs.RowLemmas.{column_flows}
use Rattle.dp_observe.proofs.columns.put_counts.Given as goal

abbrev pub invariant-loop-column : goal.invariant-loop-column
invariant-loop-column l = record {
  size : length l.rows ≡ length l.initial.rows;
  rows : (place : ℕ) (from : RegionSite) → slice_get l.sites place ≡ Some from → place < length l.initial.rows
      → row_at l.rows place ++ column_flows place from l.to l.column-iterator ≡ row_at l.initial.rows place ++ column_flows place from l.to l.counts.entries;
}
