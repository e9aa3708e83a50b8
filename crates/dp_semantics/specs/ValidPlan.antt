-- Valid plans of an inlined program: they fit it, their tables are right, and its regions stand alone.
use Rattle.std.specs.Prelude.{◌≡◌, ℕ, ◌<◌, ◌≤◌, Bool, true, length, None, nat_lt}
use Rattle.std.specs.List.{list_all}
use Rattle.dp_tree.specs.declared.Program.{Program}
use Rattle.dp_tree.specs.RegionLaws.{StandsOnce}
use Rattle.dp_plan.specs.declared.Plan.{Plan}
use Rattle.dp_plan.specs.declared.WrittenStage.{WrittenStage}
use Rattle.dp_plan.specs.declared.WrittenPlan.{WrittenPlan}
use Rattle.dp_plan.specs.CheckedTable.{IsTabled}
use Rattle.dp_plan.specs.Written.{plan_of}
use Rattle.dp_plan.specs.Valid.{first_broken}
use Rattle.dp_semantics.specs.Fits.{fits_plan, stands_alone}
use Rattle.dp_semantics.specs.OneStage.{one_stage_plan}

-- the line lists a site, as each stage line of a plan's text does
abbrev pub lists_site : WrittenStage → Bool
lists_site line = nat_lt 0 (length line.sites)

-- The plan is what these lines stand for: no rule is broken by them, and each stage line lists a site.
pub record WrittenAs (p : Program) (w : WrittenPlan) (plan : Plan) : Type 0 where
  pub valid : first_broken p w ≡ None
  pub filled : list_all lists_site w.stages ≡ true
  pub plan_is : plan ≡ plan_of p plan.proved w

-- A plan that has such lines fits.
abbrev pub ValidPlanFits : Program → Plan → Type 0
ValidPlanFits p plan = (w : WrittenPlan) → WrittenAs p w plan → fits_plan p plan ≡ true

-- .. and its table of checked sites is right.
abbrev pub ValidPlanTabled : Program → Plan → Type 0
ValidPlanTabled p plan = (w : WrittenPlan) → WrittenAs p w plan → IsTabled p plan

-- Each region of the program stands alone.
abbrev pub RegionsStandAlone : Program → Type 0
RegionsStandAlone p = (r : ℕ) → 0 < r → r ≤ length p.regions → stands_alone p r ≡ true

-- Each region stands once in `main`, so that the events at its sites are those of its iterations.
abbrev pub RegionsStandOnce : Program → Type 0
RegionsStandOnce p = (r : ℕ) → 0 < r → r ≤ length p.regions → StandsOnce p r

-- .. and so is the one-stage plan of each of them: it fits, and its table is right.
abbrev pub OneStageFits : Program → Type 0
OneStageFits p = (r : ℕ) → 0 < r → r ≤ length p.regions → fits_plan p (one_stage_plan p r) ≡ true

abbrev pub OneStageTabled : Program → Type 0
OneStageTabled p = (r : ℕ) → 0 < r → r ≤ length p.regions → IsTabled p (one_stage_plan p r)
