use Rattle.std.proofs.Common.{◌≡◌, ℕ, ◌++◌, length, Some, slice_get}
use Rattle.dp_profile.specs.declared.sites.RegionSite.{RegionSite}
use Rattle.dp_observe.specs.steps.Taken.{row_at, flows_from}
use Rattle.dp_observe.proofs.profile.flows.Given as goal

abbrev pub invariant-loop-to : goal.invariant-loop-to
invariant-loop-to l = record {
  size : length l.rows ≡ length l.sites;
  rows : (place : ℕ) (from : RegionSite) → slice_get l.sites place ≡ Some from
      → row_at l.rows place ++ flows_from place from l.to-iterator.a.rest.now l.to-iterator.b.rest.now ≡ flows_from place from l.sites l.tallies;
}
