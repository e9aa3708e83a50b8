-- The text of a profile as it is written.
use Rattle.std.specs.Prelude.{ℕ, ◌+◌, List, [], ◌∷◌, ◌++◌}
use Rattle.std.specs.List.{flat_map}
use Rattle.dp_tree.specs.declared.Program.{Program}
use Rattle.dp_profile.specs.declared.Profile.{Profile}
use Rattle.dp_profile.specs.declared.RegionProfile.{RegionProfile}
use Rattle.dp_profile.specs.declared.SiteCount.{SiteCount}
use Rattle.dp_profile.specs.declared.Flow.{Flow}
use Rattle.dp_profile_text.specs.declared.line.Line.{Line}
use Rattle.dp_profile_text.specs.declared.line.Line.TheVariants as line
use Rattle.dp_profile.specs.declared.sites.RegionSite.{RegionSite}
use Rattle.dp_profile_text.specs.ProfileText.{profile_line_bytes, profile_region_lines, profile_lines}

-- the lines of the profile
abbrev pub profile_text : Program → Profile → List ℕ
profile_text p profile = flat_map profile_line_bytes (profile_lines p profile)

-- a line's bytes
unfoldable pub profile_line_text : Line → List ℕ
profile_line_text l = profile_line_bytes l

-- the lines of sites with their counts
abbrev pub runs_text : List RegionSite → List SiteCount → List ℕ
runs_text [] counts = []
runs_text (s ∷ sites) [] = []
runs_text (s ∷ sites) (c ∷ counts) = profile_line_text (line.Runs s.site c) ++ runs_text sites counts

-- the lines of flows
abbrev pub flows_text : List Flow → List ℕ
flows_text [] = []
flows_text (f ∷ rest) = profile_line_text (line.Flow f) ++ flows_text rest

-- the lines of region r
unfoldable pub profile_region_text : ℕ → List RegionSite → RegionProfile → List ℕ
profile_region_text r sites shown = flat_map profile_line_bytes (profile_region_lines r sites shown)

-- those of the regions from r on
abbrev pub regions_text : ℕ → List (List RegionSite) → List RegionProfile → List ℕ
regions_text r [] shown = []
regions_text r (sites ∷ later) [] = []
regions_text r (sites ∷ later) (shown ∷ rest) = profile_region_text r sites shown ++ regions_text (r + 1) later rest
