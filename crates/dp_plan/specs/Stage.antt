-- The stages of a plan: which one a site is of, and which are replicated.
use Rattle.std.specs.Prelude.{ℕ, zero, suc, if◌then◌else◌, ◌-◌, Bool, true, false, Option, Some, None, slice_get, slice_index, nat_le}
use Rattle.dp_tree.specs.declared.VarInfo.{VarInfo}
use Rattle.dp_tree.specs.declared.RegionInfo.{RegionInfo}
use Rattle.dp_tree.specs.declared.Program.{Program}
use Rattle.dp_tree.specs.Step.{is_local_of}
use Rattle.dp_plan.specs.declared.StageKind.{StageKind}
use Rattle.dp_plan.specs.declared.StageKind.TheVariants.{Seq, Par}
use Rattle.dp_plan.specs.declared.Plan.{Plan}

-- the first site in an entry of the table
abbrev pub first_site_of : Option RegionInfo → ℕ
first_site_of None = 0
first_site_of (Some info) = info.first.0

-- the first site of the plan's region: its condition
abbrev pub first_site : Program → Plan → ℕ
first_site p plan = first_site_of (slice_get p.regions (plan.region - 1))

-- the plan's stage of a site of its region, from 1, and 0 for a site before the region
abbrev pub stage_of : Program → Plan → ℕ → ℕ
stage_of p plan site = if nat_le (first_site p plan) site then slice_index plan.stage_of (site - first_site p plan) else 0

-- the kind is replicated
abbrev pub is_par : Option StageKind → Bool
is_par (Some Par) = true
is_par (Some Seq) = false
is_par None = false

-- stage s is replicated; stages count from 1
abbrev pub is_replicated : Plan → ℕ → Bool
is_replicated plan zero = false
is_replicated plan (suc s) = is_par (slice_get plan.stages s)

-- the entry is that of a body local of region r
abbrev pub is_local : ℕ → Option VarInfo → Bool
is_local r None = false
is_local r (Some info) = is_local_of r info.scope

-- the variable is a body local of the plan's region
abbrev pub is_body_local : Program → Plan → ℕ → Bool
is_body_local p plan x = is_local plan.region (slice_get p.vars x)
