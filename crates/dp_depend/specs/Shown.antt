-- What a profile says of a region: the counts of its sites, the flows that are frequent, and the outcomes that may be assumed.
use Rattle.std.specs.Prelude.{ℕ, ◌-◌, ◌*◌, ◌==◌, if◌then◌else◌, Bool, true, false, not, ◌&&◌, ◌||◌, nat_le, nat_lt, List, [], ◌∷◌, Option, Some, None}
use Rattle.std.specs.Prelude.{slice_get}
use Rattle.std.specs.List.{list_any, flat_map}
use Rattle.dp_base.specs.declared.SiteId.{SiteId}
use Rattle.dp_tree.specs.declared.Assume.{Assume}
use Rattle.dp_profile.specs.declared.Profile.{Profile}
use Rattle.dp_profile.specs.declared.RegionProfile.{RegionProfile}
use Rattle.dp_profile.specs.declared.SiteCount.{SiteCount}
use Rattle.dp_profile.specs.declared.Flow.{Flow}
use Rattle.dp_profile.specs.Observed.{nothing_shown, same_kind}
use Rattle.dp_depend.specs.Node.{Node}

abbrev pub or_nothing : Option RegionProfile → RegionProfile
or_nothing None = nothing_shown
or_nothing (Some shown) = shown

-- what the profile has of region r; without a profile nothing was counted
abbrev pub region_profile : Option Profile → ℕ → RegionProfile
region_profile None r = nothing_shown
region_profile (Some profile) r = or_nothing (slice_get profile.regions (r - 1))

abbrev pub or_none : Option SiteCount → SiteCount
or_none None = record { runs = 0; nonzero = 0 }
or_none (Some count) = count

-- the counts of a site, where the region begins with this first one
abbrev pub counts_at : List SiteCount → ℕ → ℕ → SiteCount
counts_at counts first site = if nat_le first site then or_none (slice_get counts (site - first)) else or_none None

-- so many loads, in thousandths of the runs, are more than the rate
abbrev pub is_above : ℕ → ℕ → ℕ → Bool
is_above rate runs shown = not (nat_le (shown * 1000) (rate * runs))

-- the flow's loads are more than the rate allows
abbrev pub is_frequent : List SiteCount → ℕ → ℕ → Flow → Bool
is_frequent counts first rate f = is_above rate (counts_at counts first f.to.0).runs f.shown

-- the flow is between these sites, and of this kind
abbrev pub is_flow : ℕ → ℕ → Bool → Flow → Bool
is_flow from to carried f = (f.from.0 == from) && ((f.to.0 == to) && same_kind f.carried carried)

-- an edge of this kind stays: its end never ran, or more was shown than the rate allows
abbrev pub is_kept : List SiteCount → List Flow → ℕ → ℕ → ℕ → ℕ → Bool → Bool
is_kept counts flows first rate from to carried =
    ((counts_at counts first to).runs == 0) || list_any (λ f. is_flow from to carried f && is_frequent counts first rate f) flows

-- the outcome of which the other is rare; of both the more frequent one, and 0 on a tie
abbrev pub rare_outcome : Bool → Bool → Bool → Option Bool
rare_outcome true true more_ones = Some more_ones
rare_outcome true false more_ones = Some false
rare_outcome false true more_ones = Some true
rare_outcome false false more_ones = None

-- the outcome that may be assumed of a condition with these counts
abbrev pub chosen_outcome : ℕ → SiteCount → Option Bool
chosen_outcome rate c =
    if c.runs == 0 then None
    else rare_outcome (not (is_above rate c.runs c.nonzero)) (not (is_above rate c.runs (c.runs - c.nonzero))) (nat_lt (c.runs - c.nonzero) c.nonzero)

abbrev pub assume_of : SiteId → Option Bool → List Assume
assume_of site None = []
assume_of site (Some taken) = record { site = site; taken = taken } ∷ []

abbrev pub chosen_at : List SiteCount → ℕ → ℕ → Node → List Assume
chosen_at counts first rate n = if n.is_if then assume_of n.site (chosen_outcome rate (counts_at counts first n.site.0)) else []

-- the outcomes that may be assumed, in text order
abbrev pub chosen_among : List SiteCount → ℕ → ℕ → List Node → List Assume
chosen_among counts first rate nodes = flat_map (chosen_at counts first rate) nodes
