-- What the texts of a run give.
use Rattle.std.specs.Prelude.{◌≡◌, ◌<◌, ℕ, List, [], ◌∷◌, ◌++◌, ℤ, Option, Some, Ok, Err}
use Rattle.std.specs.Option.{option_map}
use Rattle.dp_tree.specs.declared.Program.{Program}
use Rattle.dp_calls.specs.Expand.{expand}
use Rattle.dp_plan.specs.declared.Plan.{Plan}
use Rattle.dp_plan.specs.GivenPlans.{ArePlans}
use Rattle.dp_words.specs.Run.{RunAsked}
use Rattle.dp_refusal.specs.declared.refusal.Refusal.{Refusal}
use Rattle.dp_refusal.specs.declared.role.Role.TheVariants as role
use Rattle.dp_refusal.specs.Refusal.{plans_role}
use Rattle.dp_load.specs.declared.texts.Texts.{Texts}
use Rattle.dp_load.specs.declared.texts.Texts.TheVariants as texts
use Rattle.dp_load.specs.Loading.{ReadsProgram}
use Rattle.dp_load.specs.Roles.{Contents, Input, Plans, source_name}

-- the names whose reads failed, where the shelf tells them
abbrev pub FailedNames : Type 0
FailedNames = Option (List (List ℕ))

-- the failed names after a failed read
abbrev pub with_failed_name : List ℕ → FailedNames → FailedNames
with_failed_name name = option_map (λ names. names ++ name ∷ [])

-- What the texts of a run give, with the shelf's faults and failed names before and after.
pub data LoadsTexts (contents : Contents) (run : RunAsked) (faults after : ℕ) (failed fails : FailedNames) : Texts → Type 0 where
  Loaded : (p q : Program) (numbers : List ℤ) (plans : List Plan) → q ≡ expand p → ReadsProgram contents run.program (Ok p) →
      Input contents run.input (Ok numbers) → Plans contents q run.options run.source (Ok plans) → ArePlans q plans →
      after ≡ faults → fails ≡ failed → LoadsTexts contents run faults after failed fails (texts.Run q numbers plans)
  ProgramRefused : (refusal : Refusal) → ReadsProgram contents run.program (Err refusal) → after ≡ faults → fails ≡ failed →
      LoadsTexts contents run faults after failed fails (texts.Refused refusal)
  InputRefused : (refusal : Refusal) (p : Program) → ReadsProgram contents run.program (Ok p) → Input contents run.input (Err refusal) →
      after ≡ faults → fails ≡ failed →
      LoadsTexts contents run faults after failed fails (texts.Refused refusal)
  PlansRefused : (refusal : Refusal) (p : Program) (numbers : List ℤ) → ReadsProgram contents run.program (Ok p) → Input contents run.input (Ok numbers) →
      Plans contents (expand p) run.options run.source (Err refusal) → after ≡ faults → fails ≡ failed →
      LoadsTexts contents run faults after failed fails (texts.Refused refusal)
  ProgramFailed : faults < after → fails ≡ with_failed_name run.program failed → LoadsTexts contents run faults after failed fails (texts.Failed role.Program)
  InputFailed : (p : Program) (name : List ℕ) → ReadsProgram contents run.program (Ok p) → run.input ≡ Some name → faults < after →
      fails ≡ with_failed_name name failed →
      LoadsTexts contents run faults after failed fails (texts.Failed role.Input)
  PlansFailed : (p : Program) (numbers : List ℤ) (name : List ℕ) → ReadsProgram contents run.program (Ok p) → Input contents run.input (Ok numbers) →
      source_name run.source ≡ Some name → faults < after → fails ≡ with_failed_name name failed →
      LoadsTexts contents run faults after failed fails (texts.Failed (plans_role run.source))
