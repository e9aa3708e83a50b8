-- Texts that aren't in the grammar, with the line at which they are refused; and what a text is read as.
use Rattle.std.specs.Prelude.{◌≡◌, ◌⊎◌, ℕ, Bool, List, map, Option, Some, None, Result, Ok, Err}
use Rattle.dp_text.specs.Refused.{IsRefusedAt}
use Rattle.dp_tree.specs.declared.Program.{Program}
use Rattle.dp_plan.specs.declared.Plan.{Plan}
use Rattle.dp_plan_text.specs.declared.PlanFail.{PlanFail}
use Rattle.dp_plan_text.specs.declared.PlanFail.TheVariants.{Refused, Invalid, NoMemory}
use Rattle.dp_plan.specs.Written.{plan_of}
use Rattle.dp_plan.specs.declared.WrittenPlan.{WrittenPlan}
use Rattle.dp_plan.specs.Valid.{first_fault}
use Rattle.dp_plan.specs.declared.BrokenRule.{BrokenRule}
use Rattle.dp_plan_text.specs.PlanText.{PlanLines, PlanText}
use Rattle.dp_text.specs.Lines.{lines_of}

-- these are the lines of a text of plans
abbrev pub IsPlanText : Program → List (List ℕ) → Type 0
IsPlanText p lines = (proved : Bool) × (plans : List WrittenPlan) × PlanLines p lines proved plans

-- the text isn't in the grammar, from this line on
abbrev pub IsRefusedPlans : Program → List ℕ → ℕ → Type 0
IsRefusedPlans p bytes line = IsRefusedAt (IsPlanText p) (lines_of bytes) line

-- the text is in the grammar, and its plans break this rule first, or none
abbrev pub IsBroken : Program → List ℕ → Option BrokenRule → Type 0
IsBroken p bytes fault = (proved : Bool) × (plans : List WrittenPlan) × PlanText p bytes proved plans × (first_fault p plans ≡ fault)

-- the text is in the grammar, its plans are valid, and stand for these, with the version that its first line names
abbrev pub StandsFor : Program → List ℕ → List Plan → Type 0
StandsFor p bytes plans = (proved : Bool) × (written : List WrittenPlan) × PlanText p bytes proved written × (first_fault p written ≡ None)
    × (plans ≡ map (plan_of p proved) written)

-- what a text is read as; want of memory may come at any place
abbrev pub ReadsAsPlans : Program → List ℕ → Result (List Plan) PlanFail → Type 0
ReadsAsPlans p bytes (Ok plans) = StandsFor p bytes plans
ReadsAsPlans p bytes (Err (Refused line)) = IsRefusedPlans p bytes line
ReadsAsPlans p bytes (Err (Invalid rule site)) = IsBroken p bytes (Some (record { rule = rule; site = site.0 }))
ReadsAsPlans p bytes (Err NoMemory) = Unit {0}

-- Reading the text gives these plans and nothing else, unless memory is wanting.
abbrev pub ReadsOnlyPlans : Program → List ℕ → List Plan → Type 0
ReadsOnlyPlans p bytes plans = (result : Result (List Plan) PlanFail) → ReadsAsPlans p bytes result → (result ≡ Ok plans) ⊎ (result ≡ Err NoMemory)
