-- The plan of a region that spreads nothing.
use Rattle.std.specs.Prelude.{ℕ, suc, ◌-◌, true, false, [], ◌∷◌, replicate, Option, Some, None, slice_get}
use Rattle.dp_base.specs.declared.limits.TheConstants.{MOST_WORDS}
use Rattle.dp_tree.specs.declared.RegionInfo.{RegionInfo}
use Rattle.dp_tree.specs.declared.Program.{Program}
use Rattle.dp_plan.specs.declared.Plan.{Plan}
use Rattle.dp_plan.specs.declared.StageKind.TheVariants.{Seq}

-- the number of sites in an entry of the table
abbrev pub sites_between : Option RegionInfo → ℕ
sites_between None = 0
sites_between (Some info) = suc info.last.0 - info.first.0

-- the number of sites of region r; regions count from 1
abbrev pub site_count : Program → ℕ → ℕ
site_count p r = sites_between (slice_get p.regions (r - 1))

-- all sites of region r in one sequential stage, with room for as many words as a plan may allow, nothing assumed and nothing checked, in the version of the
-- plans that the program makes
abbrev pub one_stage_plan : Program → ℕ → Plan
one_stage_plan p r =
    record {
      region = r;
      words = MOST_WORDS;
      stages = Seq ∷ [];
      stage_of = replicate (site_count p
          r) 1;
      assume = [];
      proved = true;
      checked_at = replicate (site_count p r) false;
    }
