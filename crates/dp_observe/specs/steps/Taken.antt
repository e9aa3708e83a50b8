-- The profile that is taken from what was counted.
use Rattle.std.specs.Prelude.{◌≡◌, ℕ, ◌+◌, ◌*◌, ◌/◌, ◌%◌, ◌<◌, ◌==◌, Bool, true, false, List, [], ◌∷◌, ◌++◌, map, length, get_or, Option, Some, None, slice_get}
use Rattle.std.specs.Prelude.{slice_set}
use Rattle.dp_profile.specs.declared.sites.RegionSite.{RegionSite}
use Rattle.dp_profile.specs.declared.RegionProfile.{RegionProfile}
use Rattle.dp_profile.specs.declared.Flow.{Flow}
use Rattle.dp_profile.specs.Observed.{flow_of}
use Rattle.dp_observe.specs.declared.counter.Counter.{Counter}
use Rattle.dp_observe.specs.declared.tally.Tally.{Tally}
use Rattle.dp_observe.specs.steps.Columns.{at_column}

-- the flow of a kind, if a load showed it
abbrev pub one_flow : ℕ → RegionSite → RegionSite → Bool → List Flow
one_flow shown from to carried = flow_of shown from to carried

-- those from the site at a place to one with these columns
abbrev pub flows_of : ℕ → RegionSite → RegionSite → List (ℕ × ℕ) → List Flow
flows_of place from to shown = one_flow (at_column shown (2 * place)) from to false ++ one_flow (at_column shown (2 * place + 1)) from to true

-- to each of these sites
abbrev pub flows_from : ℕ → RegionSite → List RegionSite → List Tally → List Flow
flows_from place from [] tallies = []
flows_from place from (to ∷ sites) [] = []
flows_from place from (to ∷ sites) (t ∷ tallies) = flows_of place from to t.shown ++ flows_from place from sites tallies

-- from each of the sites that stand from a place on
abbrev pub flows_taken : ℕ → List RegionSite → List RegionSite → List Tally → List Flow
flows_taken place [] sites tallies = []
flows_taken place (from ∷ rest) sites tallies = flows_from place from sites tallies ++ flows_taken (place + 1) rest sites tallies

abbrev pub region_taken : List RegionSite → Counter → RegionProfile
region_taken sites c = record { sites = map (λ t. t.count) c.tallies; flows = flows_taken 0 sites sites c.tallies }

abbrev pub regions_taken : List (List RegionSite) → List Counter → List RegionProfile
regions_taken [] counters = []
regions_taken (sites ∷ regions) [] = []
regions_taken (sites ∷ regions) (c ∷ counters) = region_taken sites c ∷ regions_taken regions counters

-- the flow of a column stands at the end of the row of its first site, if there is one
abbrev pub Puts : RegionSite → ℕ → ℕ → Option RegionSite → Option (List Flow) → List (List Flow) → List (List Flow) → Type 0
Puts to column shown None row old new = new ≡ old
Puts to column shown (Some from) None old new = new ≡ old
Puts to column shown (Some from) (Some row) old new = new ≡ slice_set old (column / 2) (row ++ one_flow shown from to (column % 2 == 1))

-- the row at a place
abbrev pub row_at : List (List Flow) → ℕ → List Flow
row_at rows place = get_or rows place []

-- each row has got the flows of these columns
pub record Grows (sites : List RegionSite) (to : RegionSite) (shown : List (ℕ × ℕ)) (old new : List (List Flow)) : Type 0 where
  pub size : length new ≡ length old
  pub rows : (place : ℕ) (from : RegionSite) → slice_get sites place ≡ Some from → place < length old → row_at new place ≡ row_at old place
      ++ flows_of place from to shown

-- the rows one after the other
abbrev pub all_rows : List (List Flow) → List Flow
all_rows [] = []
all_rows (row ∷ rows) = row ++ all_rows rows
