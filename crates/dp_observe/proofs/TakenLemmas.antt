-- Where no site, no tally or no counter is left, nothing is taken.
use Rattle.std.proofs.Common.{◌≡◌, refl, ℕ, List, [], ◌∷◌, length, arith}
use Rattle.dp_profile.specs.declared.sites.RegionSite.{RegionSite}
use Rattle.dp_observe.specs.declared.counter.Counter.{Counter}
use Rattle.dp_observe.specs.declared.tally.Tally.{Tally}
use Rattle.dp_observe.specs.steps.Taken.{flows_from, regions_taken}

pub no_sites : (place : ℕ) (from : RegionSite) (sites : List RegionSite) (tallies : List Tally) → length sites ≡ 0 → flows_from place from sites tallies ≡ []
no_sites place from [] tallies e = refl
no_sites place from (s ∷ sites) tallies e = absurd (omega (arith, e))

pub no_tallies : (place : ℕ) (from : RegionSite) (sites : List RegionSite) (tallies : List Tally) → length tallies ≡ 0 →
    flows_from place from sites tallies ≡ []
no_tallies place from [] tallies e = refl
no_tallies place from (s ∷ sites) [] e = refl
no_tallies place from (s ∷ sites) (t ∷ tallies) e = absurd (omega (arith, e))

pub no_regions : (regions : List (List RegionSite)) (counters : List Counter) → length regions ≡ 0 → regions_taken regions counters ≡ []
no_regions [] counters e = refl
no_regions (sites ∷ regions) counters e = absurd (omega (arith, e))

pub no_counters : (regions : List (List RegionSite)) (counters : List Counter) → length counters ≡ 0 → regions_taken regions counters ≡ []
no_counters [] counters e = refl
no_counters (sites ∷ regions) [] e = refl
no_counters (sites ∷ regions) (c ∷ counters) e = absurd (omega (arith, e))
