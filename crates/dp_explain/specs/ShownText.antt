-- What a profile saw of a region, by the lines of a profile's text.
use Rattle.std.specs.Prelude.{ℕ, ◌-◌, List, [], ◌++◌, Option, Some, None, slice_get}
use Rattle.dp_profile.specs.declared.Profile.{Profile}
use Rattle.dp_profile.specs.declared.RegionProfile.{RegionProfile}
use Rattle.dp_profile.specs.declared.sites.RegionSite.{RegionSite}
use Rattle.dp_profile_text.specs.WrittenText.{flows_text, runs_text}
use Rattle.dp_depend.specs.Shown.{region_profile}

abbrev pub or_no_sites : Option (List RegionSite) → List RegionSite
or_no_sites None = []
or_no_sites (Some sites) = sites

-- the counts of these sites, and the flows
abbrev pub shown_text : List RegionSite → RegionProfile → List ℕ
shown_text sites shown = runs_text sites shown.sites ++ flows_text shown.flows

-- what the profile saw of region r, where all regions have these sites: nothing without a profile
abbrev pub shown_lines : List (List RegionSite) → ℕ → Option Profile → List ℕ
shown_lines all r profile = shown_text (or_no_sites (slice_get all (r - 1))) (region_profile profile r)
