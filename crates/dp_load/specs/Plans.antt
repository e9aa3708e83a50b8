-- What the plans of a run are: those of the text that the words name, or the least of each region.
use Rattle.std.specs.Prelude.{ℕ, ◌+◌, ◌<◌, ◌≤◌, List, length, Option, Some, Result, Ok, Err}
use Rattle.dp_base.specs.declared.Quantity.TheVariants.{PlanBytes}
use Rattle.dp_base.specs.declared.limits.TheConstants.{PLAN_BYTES}
use Rattle.dp_tree.specs.declared.Program.{Program}
use Rattle.dp_plan.specs.declared.Plan.{Plan}
use Rattle.dp_plan_text.specs.Refused.{IsRefusedPlans, IsBroken, StandsFor}
use Rattle.dp_profile.specs.declared.Profile.{Profile}
use Rattle.dp_cut.specs.Automatic.{AreAutomatic}
use Rattle.dp_words.specs.declared.task.PlanOptions.{PlanOptions}
use Rattle.dp_refusal.specs.declared.refusal.Refusal.{Refusal}
use Rattle.dp_refusal.specs.declared.refusal.Refusal.TheVariants.{Limit, PlanLine, PlanRule}

-- The text is read as these plans of the expanded program, or refused for the first of the causes that stands: its length, its lines, a rule.
pub data ReadsPlans (p : Program) (text : List ℕ) : Result (List Plan) Refusal → Type 0 where
  TooLong : PLAN_BYTES < length text → ReadsPlans p text (Err (Limit PlanBytes (PLAN_BYTES + 1)))
  NotPlans : (line : ℕ) → length text ≤ PLAN_BYTES → IsRefusedPlans p text line → ReadsPlans p text (Err (PlanLine line))
  Broken : (rule site : ℕ) → length text ≤ PLAN_BYTES → IsBroken p text (Some (record { rule = rule; site = site })) →
      ReadsPlans p text (Err (PlanRule rule site))
  Taken : (plans : List Plan) → length text ≤ PLAN_BYTES → StandsFor p text plans → ReadsPlans p text (Ok plans)

-- the automatic plans of the expanded program, made as these options say, by a profile if there is one: the least of each region
abbrev pub MakesPlans : Program → PlanOptions → Option Profile → List Plan → Type 0
MakesPlans p options profile plans = AreAutomatic p profile options.rate options.stages options.workers plans
