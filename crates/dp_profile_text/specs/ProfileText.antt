-- The text of a profile: its lines in order, and the words of each.
use Rattle.std.specs.Prelude.{◌≡◌, ℕ, ◌+◌, Bool, true, false, List, [], ◌∷◌, ◌++◌, map, codes, decimal}
use Rattle.dp_tree.specs.declared.Program.{Program}
use Rattle.dp_text.specs.Words.{joined_words}
use Rattle.dp_text.specs.Lines.{lines_of}
use Rattle.dp_profile.specs.declared.Profile.{Profile}
use Rattle.dp_profile.specs.declared.RegionProfile.{RegionProfile}
use Rattle.dp_profile.specs.declared.SiteCount.{SiteCount}
use Rattle.dp_profile_text.specs.declared.line.Line.{Line}
use Rattle.dp_profile_text.specs.declared.line.Line.TheVariants as line
use Rattle.dp_profile.specs.ProfileFits.{ProfileFits}
use Rattle.dp_profile.specs.declared.sites.RegionSite.{RegionSite}
use Rattle.dp_profile.specs.Sites.{regions}

-- whether the store was of an earlier iteration
abbrev pub flow_word : Bool → List ℕ
flow_word true = codes "carried"
flow_word false = codes "intra"

-- the words of a line; numbers are decimal, without a sign or leading zeros
abbrev pub profile_words : Line → List (List ℕ)
profile_words line.Head = codes "profile" ∷ codes "1" ∷ []
profile_words (line.Region r) = codes "region" ∷ decimal r ∷ []
profile_words (line.Runs site c) = codes "runs" ∷ decimal site.0 ∷ decimal c.runs ∷ decimal c.nonzero ∷ []
profile_words (line.Flow f) = codes "flow" ∷ decimal f.from.0 ∷ decimal f.to.0 ∷ flow_word f.carried ∷ decimal f.shown ∷ []
profile_words line.End = codes "end" ∷ []

-- the line's bytes: its words with single spaces between, and LF
abbrev pub profile_line_bytes : Line → List ℕ
profile_line_bytes l = joined_words (profile_words l) ++ 10 ∷ []

-- a line for each site with its counts
abbrev pub runs_lines : List RegionSite → List SiteCount → List Line
runs_lines [] counts = []
runs_lines (s ∷ sites) [] = []
runs_lines (s ∷ sites) (c ∷ counts) = line.Runs s.site c ∷ runs_lines sites counts

-- the lines of region r with these sites: the first, one for each site in order, and one for each flow as they stand
abbrev pub profile_region_lines : ℕ → List RegionSite → RegionProfile → List Line
profile_region_lines r sites shown = line.Region r ∷ (runs_lines sites shown.sites ++ map line.Flow shown.flows)

-- those of the regions from r on
abbrev pub regions_lines : ℕ → List (List RegionSite) → List RegionProfile → List Line
regions_lines r [] shown = []
regions_lines r (sites ∷ later) [] = []
regions_lines r (sites ∷ later) (shown ∷ rest) = profile_region_lines r sites shown ++ regions_lines (r + 1) later rest

-- the lines of a text: the first, those of the regions, and the last
abbrev pub profile_lines : Program → Profile → List Line
profile_lines p profile = line.Head ∷ (regions_lines 1 (regions p) profile.regions ++ line.End ∷ [])

-- the lines are those of this profile of the program
pub record ProfileLines (p : Program) (lines : List (List ℕ)) (profile : Profile) : Type 0 where
  pub lines_are : lines ≡ map profile_line_bytes (profile_lines p profile)
  pub fits : ProfileFits p profile

-- the text is that of this profile
abbrev pub ProfileText : Program → List ℕ → Profile → Type 0
ProfileText p bytes profile = ProfileLines p (lines_of bytes) profile
