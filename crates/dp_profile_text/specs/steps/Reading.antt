-- Which lines may follow one another.
use Rattle.std.specs.Prelude.{ℕ, ◌-◌, ◌==◌, if◌then◌else◌, Bool, true, false, ◌&&◌, ◌||◌, nat_le, nat_lt, List, [], ◌∷◌, ◌++◌, length, Option, Some, None}
use Rattle.std.specs.Prelude.{slice_get}
use Rattle.dp_base.specs.declared.SiteId.{SiteId}
use Rattle.dp_profile.specs.declared.RegionProfile.{RegionProfile}
use Rattle.dp_profile.specs.declared.SiteCount.{SiteCount}
use Rattle.dp_profile.specs.declared.Flow.{Flow}
use Rattle.dp_profile_text.specs.declared.line.Line.{Line}
use Rattle.dp_profile_text.specs.declared.line.Line.TheVariants as line
use Rattle.dp_profile_text.specs.declared.reader.Reader.{Reader}
use Rattle.dp_profile_text.specs.declared.reader.Phase.{Phase}
use Rattle.dp_profile_text.specs.declared.reader.Phase.TheVariants as phase
use Rattle.dp_profile.specs.Observed.{nothing_shown}
use Rattle.dp_profile.specs.declared.sites.RegionSite.{RegionSite}
use Rattle.dp_profile.specs.Sites.{has_numbered_site}
use Rattle.dp_profile.specs.ProfileFits.{is_before}

abbrev pub state : Phase → List RegionProfile → RegionProfile → Reader
state at done last = record { phase = at; done = done; last = last }

-- no line yet
abbrev pub begun : Reader
begun = state phase.Start [] nothing_shown

abbrev pub is_start : Phase → Bool
is_start phase.Start = true
is_start phase.Headed = false
is_start phase.Region = false
is_start phase.Over = false

abbrev pub is_headed : Phase → Bool
is_headed phase.Start = false
is_headed phase.Headed = true
is_headed phase.Region = false
is_headed phase.Over = false

abbrev pub in_region : Phase → Bool
in_region phase.Start = false
in_region phase.Headed = false
in_region phase.Region = true
in_region phase.Over = false

abbrev pub is_over : Phase → Bool
is_over phase.Start = false
is_over phase.Headed = false
is_over phase.Region = false
is_over phase.Over = true

abbrev pub sites_or_none : Option (List RegionSite) → List RegionSite
sites_or_none None = []
sites_or_none (Some sites) = sites

-- the sites of the last region
abbrev pub last_sites : List (List RegionSite) → Reader → List RegionSite
last_sites all s = sites_or_none (slice_get all (length s.done))

-- the last region has a line for each of its sites
abbrev pub is_counted : List (List RegionSite) → Reader → Bool
is_counted all s = in_region s.phase && (length s.last.sites == length (last_sites all s))

-- no region's line has been read, or the last region's sites are counted
abbrev pub is_between : List (List RegionSite) → Reader → Bool
is_between all s = is_headed s.phase || is_counted all s

-- the regions with the last one
abbrev pub closed : Reader → List RegionProfile
closed s = if in_region s.phase then (s.done ++ s.last ∷ []) else s.done

-- the regions before the one with this number have a line, and it has none
abbrev pub region_next : List (List RegionSite) → Reader → ℕ → Bool
region_next all s r = nat_lt 0 r && (nat_le r (length all) && (length (closed s) == r - 1))

-- the site has this number, and a condition where it has a value other than 0
abbrev pub counts_at : SiteId → SiteCount → Option RegionSite → Bool
counts_at site c None = false
counts_at site c (Some s) = (s.site.0 == site.0) && (s.condition || (c.nonzero == 0))

-- the flow comes behind this one
abbrev pub is_behind : Option Flow → Flow → Bool
is_behind None g = true
is_behind (Some f) g = is_before f g

abbrev pub last_flow : List Flow → Option Flow
last_flow flows = slice_get flows (length flows - 1)

-- the flow is between sites of the last region, and comes behind the others
abbrev pub flows_next : List (List RegionSite) → Reader → Flow → Bool
flows_next all s f = has_numbered_site f.from.0 (last_sites all s) && (has_numbered_site f.to.0 (last_sites all s) && is_behind (last_flow s.last.flows) f)

abbrev pub with_count : Reader → SiteCount → Reader
with_count s c = state s.phase s.done (record { sites = s.last.sites ++ c ∷ []; flows = s.last.flows })

abbrev pub with_flow : Reader → Flow → Reader
with_flow s f = state s.phase s.done (record { sites = s.last.sites; flows = s.last.flows ++ f ∷ [] })

-- where these lines were read one more may be read, in a text for regions with these sites
unfoldable pub next : List (List RegionSite) → Reader → Line → Option Reader
next all s line.Head = if is_start s.phase then Some (state phase.Headed s.done s.last) else None
next all s (line.Region r) = if is_between all s && region_next all s r then Some (state phase.Region (closed s) nothing_shown) else None
next all s (line.Runs site c) =
    if in_region s.phase && counts_at site c (slice_get (last_sites all s) (length s.last.sites)) then Some (with_count s c) else None
next all s (line.Flow f) = if is_counted all s && flows_next all s f then Some (with_flow s f) else None
next all s line.End = if is_between all s && (length (closed s) == length all) then Some (state phase.Over (closed s) nothing_shown) else None

-- the same of a line's words, if they are one
unfoldable pub next_by : List (List RegionSite) → Reader → Option Line → Option Reader
next_by all s None = None
next_by all s (Some l) = next all s l
