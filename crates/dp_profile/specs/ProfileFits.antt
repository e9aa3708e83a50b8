-- What the numbers of a profile have to be, and the order of its flows.
use Rattle.std.specs.Prelude.{◌≡◌, ℕ, ◌≤◌, ◌==◌, Bool, true, false, not, ◌&&◌, ◌||◌, nat_lt, List, [], ◌∷◌}
use Rattle.dp_base.specs.declared.limits.TheConstants.{PROFILE_COUNT}
use Rattle.dp_tree.specs.declared.Program.{Program}
use Rattle.dp_plan.specs.Each.{Each}
use Rattle.dp_profile.specs.declared.Profile.{Profile}
use Rattle.dp_profile.specs.declared.RegionProfile.{RegionProfile}
use Rattle.dp_profile.specs.declared.SiteCount.{SiteCount}
use Rattle.dp_profile.specs.declared.Flow.{Flow}
use Rattle.dp_profile.specs.Sites.{RegionSite, has_numbered_site, regions}

-- the most that a count may be
abbrev pub most_count : ℕ
most_count = PROFILE_COUNT

-- the counts of a site: not too many, and no value other than 0 where there is no condition
pub record CountFits (s : RegionSite) (c : SiteCount) : Type 0 where
  pub most_runs : c.runs ≤ most_count
  pub most_nonzero : c.nonzero ≤ c.runs
  pub condition : s.condition ≡ false → c.nonzero ≡ 0

-- there are counts for each of the sites, and for no other
abbrev pub CountsFit : List RegionSite → List SiteCount → Type 0
CountsFit [] [] = Unit {0}
CountsFit [] (c ∷ counts) = ⊥
CountsFit (s ∷ sites) [] = ⊥
CountsFit (s ∷ sites) (c ∷ counts) = CountFits s c × CountsFit sites counts

-- a flow between two sites of the region, which was seen
pub record FlowFits (sites : List RegionSite) (f : Flow) : Type 0 where
  pub from : has_numbered_site f.from.0 sites ≡ true
  pub to : has_numbered_site f.to.0 sites ≡ true
  pub some_shown : 1 ≤ f.shown
  pub most_shown : f.shown ≤ most_count

-- flows are ordered by `from`, then by `to`, and then intra before carried
abbrev pub is_before : Flow → Flow → Bool
is_before f g =
    nat_lt f.from.0 g.from.0 || ((f.from.0 == g.from.0) && (nat_lt f.to.0 g.to.0 || ((f.to.0 == g.to.0) && (not f.carried && g.carried))))

-- each of the flows comes before the next
abbrev pub Ascend : List Flow → Type 0
Ascend [] = Unit {0}
Ascend (f ∷ []) = Unit {0}
Ascend (f ∷ g ∷ rest) = (is_before f g ≡ true) × Ascend (g ∷ rest)

-- the counts of a region with these sites
pub record RegionFits (sites : List RegionSite) (shown : RegionProfile) : Type 0 where
  pub counts : CountsFit sites shown.sites
  pub flows : Each (FlowFits sites) shown.flows
  pub ascend : Ascend shown.flows

-- there are counts for each of the regions, and for no other
abbrev pub RegionsFit : List (List RegionSite) → List RegionProfile → Type 0
RegionsFit [] [] = Unit {0}
RegionsFit [] (shown ∷ rest) = ⊥
RegionsFit (sites ∷ later) [] = ⊥
RegionsFit (sites ∷ later) (shown ∷ rest) = RegionFits sites shown × RegionsFit later rest

-- the profile is one of the program, and can be written
abbrev pub ProfileFits : Program → Profile → Type 0
ProfileFits p profile = RegionsFit (regions p) profile.regions
