-- What is so of plans that are given for a program.
use Rattle.std.specs.Prelude.{◌≡◌, ℕ, ◌≤◌, Bool, true, List, [], ◌∷◌, map, length}
use Rattle.dp_base.specs.declared.limits.TheConstants.{LEAST_WORDS, MOST_WORDS, STAGES}
use Rattle.dp_tree.specs.declared.Program.{Program}
use Rattle.dp_tree.specs.Numbering.{numbers_from}
use Rattle.dp_plan.specs.declared.Plan.{Plan}
use Rattle.dp_plan.specs.Written.{region_sites, has}
use Rattle.dp_plan.specs.Rules.{assumed_site}
use Rattle.dp_plan.specs.Valid.{is_valid_plan}
use Rattle.dp_plan.specs.Each.{AscendAbove, Each}
use Rattle.dp_plan.specs.CheckedTable.{checked_table}

-- the plan fits its region
pub record IsPlan (p : Program) (plan : Plan) : Type 0 where
  -- the words are within their limits
  pub least_words : LEAST_WORDS ≤ plan.words
  pub most_words : plan.words ≤ MOST_WORDS
  -- so is the number of stages
  pub some_stage : 1 ≤ length plan.stages
  pub few_stages : length plan.stages ≤ STAGES
  -- each stage has a site
  pub filled : Each (λ stage. has stage plan.stage_of ≡ true) (numbers_from 1 (length plan.stages))
  -- there is a stage for each site of the region
  pub staged : length plan.stage_of ≡ length (region_sites p plan.region)
  -- no rule is broken
  pub valid : is_valid_plan p plan ≡ true
  -- the assumptions ascend strictly by site
  pub assume : AscendAbove 0 (map assumed_site plan.assume)
  -- the table of checked sites is right
  pub table : plan.checked_at ≡ checked_table p plan

-- the plan's region
abbrev pub region_of : Plan → ℕ
region_of plan = plan.region

-- the plan has this version
abbrev pub HasVersion : Bool → Plan → Type 0
HasVersion proved plan = plan.proved ≡ proved

-- the version of plans that have one; without a plan it is the one with proved independence
abbrev pub plans_version : List Plan → Bool
plans_version [] = true
plans_version (plan ∷ rest) = plan.proved

-- there is a plan for each region, in order, and all have one version
pub record ArePlans (p : Program) (plans : List Plan) : Type 0 where
  pub regions : map region_of plans ≡ numbers_from 1 (length p.regions)
  pub each : Each (IsPlan p) plans
  pub version : Each (HasVersion (plans_version plans)) plans
