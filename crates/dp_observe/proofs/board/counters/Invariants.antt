use Rattle.std.proofs.Common.{◌≡◌, ℕ, ◌+◌, ◌<◌, ◌^◌, List, length, Some, slice_get}
use Rattle.dp_profile.specs.declared.sites.RegionSite.{RegionSite}
use Rattle.dp_observe.specs.declared.counter.Counter.{Counter}
use Rattle.dp_observe.specs.steps.Starting.{Starts}
use Rattle.dp_observe.proofs.board.counters.Given as goal

abbrev pub invariant-loop-sites : goal.invariant-loop-sites
invariant-loop-sites l = record {
  size : length l.all ≡ l.sites-index;
  region : l.region ≡ l.sites-index;
  few : l.region < 2 ^ 32;
  each : (place : ℕ) (sites : List RegionSite) (c : Counter) → slice_get l.regions place ≡ Some sites → slice_get l.all place ≡ Some c →
      Starts l.program (place + 1) sites c;
}
