-- What is counted before a run.
use Rattle.std.specs.Prelude.{◌≡◌, ℕ, ◌+◌, ◌<◌, ◌^◌, List, [], ◌∷◌, map, length, Some, slice_get}
use Rattle.dp_base.specs.declared.SiteId.{SiteId}
use Rattle.dp_tree.specs.declared.Program.{Program}
use Rattle.dp_profile.specs.declared.sites.RegionSite.{RegionSite}
use Rattle.dp_profile.specs.Observed.{is_body_cell}
use Rattle.dp_observe.specs.declared.counter.Counter.{Counter}
use Rattle.dp_observe.specs.steps.Frames.{blank}
use Rattle.dp_observe.specs.Sparse.{at}

-- the first site
abbrev pub first_of : List RegionSite → SiteId
first_of [] = record { 0 = 0 }
first_of (s ∷ rest) = s.site

-- nothing was counted in the region
pub record Starts (p : Program) (region : ℕ) (sites : List RegionSite) (c : Counter) : Type 0 where
  pub frame : c.frame ≡ record { first = first_of sites; since = 0; begun = 0; last = 0 }
  pub locals : (k : ℕ) → at c.locals k ≡ is_body_cell p region k
  pub tallies : c.tallies ≡ map (λ _. blank) sites

-- nor in any of the regions
pub record AllStart (p : Program) (regions : List (List RegionSite)) (counters : List Counter) : Type 0 where
  pub size : length counters ≡ length regions
  pub few : length regions < 2 ^ 32
  pub each : (place : ℕ) (sites : List RegionSite) (c : Counter) → slice_get regions place ≡ Some sites → slice_get counters place ≡ Some c →
      Starts p (place + 1) sites c
