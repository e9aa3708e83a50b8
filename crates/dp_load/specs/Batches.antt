-- What the texts of a batch give.
use Rattle.std.specs.Prelude.{◌≡◌, ◌<◌, ℕ, List, ℤ, Some, Ok, Err}
use Rattle.dp_tree.specs.declared.Program.{Program}
use Rattle.dp_calls.specs.Expand.{expand}
use Rattle.dp_plan.specs.declared.Plan.{Plan}
use Rattle.dp_plan.specs.GivenPlans.{ArePlans}
use Rattle.dp_words.specs.Run.{RunAsked}
use Rattle.dp_refusal.specs.declared.refusal.Refusal.{Refusal}
use Rattle.dp_refusal.specs.declared.role.Role.TheVariants as role
use Rattle.dp_refusal.specs.Refusal.{plans_role}
use Rattle.dp_load.specs.declared.batch.Listed.{Listed}
use Rattle.dp_load.specs.declared.batch.Listed.TheVariants as listed
use Rattle.dp_load.specs.declared.batch.BatchTexts.{BatchTexts}
use Rattle.dp_load.specs.declared.batch.BatchTexts.TheVariants as texts
use Rattle.dp_load.specs.Loading.{ReadsProgram}
use Rattle.dp_load.specs.Lists.{Inputs, IsNextListed}
use Rattle.dp_load.specs.Roles.{Contents, Plans, source_name}
use Rattle.dp_load.specs.Texts.{FailedNames, with_failed_name}

-- What the list under a name and its inputs give, with the shelf's faults and failed names before and after.
pub data LoadsInputs (contents : Contents) (list : List ℕ) (faults after : ℕ) (failed fails : FailedNames) : Listed → Type 0 where
  Loaded : (inputs : List (List ℤ)) → Inputs contents (Some list) (Ok inputs) → after ≡ faults → fails ≡ failed →
      LoadsInputs contents list faults after failed fails (listed.Inputs inputs)
  Refused : (refusal : Refusal) → Inputs contents (Some list) (Err refusal) → after ≡ faults → fails ≡ failed →
      LoadsInputs contents list faults after failed fails (listed.Refused refusal)
  ListFailed : faults < after → fails ≡ with_failed_name list failed → LoadsInputs contents list faults after failed fails (listed.Failed role.List)
  InputFailed : (name : List ℕ) → IsNextListed contents list name → faults < after → fails ≡ with_failed_name name failed →
      LoadsInputs contents list faults after failed fails (listed.Failed role.Input)

-- What the texts of a batch give: the program, the inputs of the list, and the plans.
pub data LoadsBatch (contents : Contents) (run : RunAsked) (list : List ℕ) (faults after : ℕ) (failed fails : FailedNames) : BatchTexts → Type 0 where
  BatchLoaded : (p q : Program) (inputs : List (List ℤ)) (plans : List Plan) → q ≡ expand p → ReadsProgram contents run.program (Ok p) →
      Inputs contents (Some list) (Ok inputs) → Plans contents q run.options run.source (Ok plans) →
      ArePlans q plans → after ≡ faults → fails ≡ failed → LoadsBatch contents run list faults after failed fails (texts.Run q inputs plans)
  ProgramRefused : (refusal : Refusal) → ReadsProgram contents run.program (Err refusal) → after ≡ faults → fails ≡ failed →
      LoadsBatch contents run list faults after failed fails (texts.Refused refusal)
  InputsRefused : (refusal : Refusal) (p : Program) → ReadsProgram contents run.program (Ok p) → Inputs contents (Some list) (Err refusal) → after ≡ faults →
      fails ≡ failed → LoadsBatch contents run list faults after failed fails (texts.Refused refusal)
  PlansRefused : (refusal : Refusal) (p : Program) (inputs : List (List ℤ)) → ReadsProgram contents run.program (Ok p) →
      Inputs contents (Some list) (Ok inputs) → Plans contents (expand p) run.options run.source (Err refusal) →
      after ≡ faults → fails ≡ failed → LoadsBatch contents run list faults after failed fails (texts.Refused refusal)
  ProgramFailed : faults < after → fails ≡ with_failed_name run.program failed → LoadsBatch contents run list faults after failed fails
      (texts.Failed role.Program)
  ListNotRead : (p : Program) → ReadsProgram contents run.program (Ok p) → faults < after → fails ≡ with_failed_name list failed →
      LoadsBatch contents run list faults after failed fails (texts.Failed role.List)
  InputNotRead : (p : Program) (name : List ℕ) → ReadsProgram contents run.program (Ok p) → IsNextListed contents list name → faults < after →
      fails ≡ with_failed_name name failed → LoadsBatch contents run list faults after failed fails (texts.Failed role.Input)
  PlansFailed : (p : Program) (inputs : List (List ℤ)) (name : List ℕ) → ReadsProgram contents run.program (Ok p) → Inputs contents (Some list) (Ok inputs) →
      source_name run.source ≡ Some name → faults < after → fails ≡ with_failed_name name failed →
      LoadsBatch contents run list faults after failed fails (texts.Failed (plans_role run.source))
