-- A plan as it is written: the lists of its lines, which need not fit the program; and the plan that it stands for.
use Rattle.std.specs.Prelude.{ℕ, suc, if◌then◌else◌, ◌==◌, Bool, List, [], ◌∷◌, map, filter, filter_map, Option, Some, None}
use Rattle.std.specs.List.{list_any, flat_map}
use Rattle.dp_tree.specs.declared.Assume.{Assume}
use Rattle.dp_tree.specs.declared.Program.{Program}
use Rattle.dp_plan.specs.declared.StageKind.{StageKind}
use Rattle.dp_plan.specs.declared.Plan.{Plan}
pub use Rattle.dp_plan.specs.declared.WrittenStage.{WrittenStage}
pub use Rattle.dp_plan.specs.declared.WrittenPlan.{WrittenPlan}
use Rattle.dp_plan.specs.Stage.{stage_of}
use Rattle.dp_plan.specs.Access.{Access, accesses, region_in}
use Rattle.dp_plan.specs.CheckedTable.{with_table}

-- the access's site
abbrev pub access_site : Access → ℕ
access_site a = a.site

-- the sites of region r, in text order; the first is the region's condition
abbrev pub region_sites : Program → ℕ → List ℕ
region_sites p r = map access_site (flat_map accesses (region_in p r))

-- the line's sites
abbrev pub sites_in : WrittenStage → List ℕ
sites_in line = line.sites

-- the listed sites, as often as they stand
abbrev pub listed_sites : WrittenPlan → List ℕ
listed_sites w = flat_map sites_in w.stages

-- the site is among these
abbrev pub has : ℕ → List ℕ → Bool
has site sites = list_any (λ n. n == site) sites

-- the number, counted from k, of the first stage that lists the site, and 0 where none does
abbrev pub stage_from : ℕ → List WrittenStage → ℕ → ℕ
stage_from k [] site = 0
stage_from k (line ∷ rest) site = if has site line.sites then k else stage_from (suc k) rest site

-- the stage of a site; where the site is listed once, there is no other
abbrev pub written_stage : WrittenPlan → ℕ → ℕ
written_stage w site = stage_from 1 w.stages site

-- the assumption of a site
abbrev pub assumption_at : List Assume → ℕ → Option Assume
assumption_at [] site = None
assumption_at (a ∷ rest) site = if a.site.0 == site then Some a else assumption_at rest site

-- the line's kind
abbrev pub kind_in : WrittenStage → StageKind
kind_in line = line.kind

-- the plan without its table that a valid written plan stands for, where independence is proved or not; its assumptions stand in the order of their sites
abbrev pub plan_before_table : Program → Bool → WrittenPlan → Plan
plan_before_table p proved w = record {
  region = w.region;
  words = w.words;
  stages = map kind_in w.stages;
  stage_of = map (written_stage w) (region_sites p w.region);
  assume = filter_map (assumption_at w.assume) (region_sites p w.region);
  proved = proved;
  checked_at = [];
}

-- the plan that a valid written plan stands for
abbrev pub plan_of : Program → Bool → WrittenPlan → Plan
plan_of p proved w = with_table p (plan_before_table p proved w)

-- the lines of stages of these kinds, from stage k on: each lists its sites in ascending order
abbrev pub lines_from : Program → Plan → ℕ → List StageKind → List WrittenStage
lines_from p plan k [] = []
lines_from p plan k (kind ∷ rest) =
    record { kind = kind; sites = filter (λ site. stage_of p plan site == k) (region_sites p plan.region) } ∷ lines_from p plan (suc k) rest

-- how a plan is written
abbrev pub written_of : Program → Plan → WrittenPlan
written_of p plan = record { region = plan.region; words = plan.words; stages = lines_from p plan 1 plan.stages; assume = plan.assume }
