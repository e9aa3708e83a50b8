-- What the texts of a run or of a batch give is what is found of its words.
use Rattle.std.proofs.Common.{◌≡◌, refl, sym, subst, ℕ, List, [], ℤ, Option, Some, Result, Ok, Err}
use Rattle.dp_tree.specs.declared.Program.{Program}
use Rattle.dp_calls.specs.Expand.{expand}
use Rattle.dp_plan.specs.declared.Plan.{Plan}
use Rattle.dp_words.specs.declared.task.PlanOptions.{PlanOptions}
use Rattle.dp_words.specs.Run.{RunAsked, Source}
use Rattle.dp_words.specs.Words.{Asked, Asks, ToAudit, ToBatch, ToResume}
use Rattle.dp_refusal.specs.declared.role.Role.{Role}
use Rattle.dp_refusal.specs.declared.refusal.Refusal.{Refusal}
use Rattle.dp_load.specs.declared.texts.Texts.TheVariants as texts
use Rattle.dp_load.specs.declared.batch.BatchTexts.TheVariants as batch
use Rattle.dp_load.specs.Batches.{LoadsBatch}
use Rattle.dp_load.specs.Batches as batches
use Rattle.dp_load.specs.Last.{LastText, LastOf, Nothing}
use Rattle.dp_load.specs.Loading.{ReadsProgram}
use Rattle.dp_load.specs.Order.{last_in}
use Rattle.dp_load.specs.Roles.{Contents, Input, NamedProgram, Plans, PlansOf, ProgramOf, SomePlans, Unnamed, input_in, plans_asked, program_in}
use Rattle.dp_load.specs.Texts.{LoadsTexts, FailedNames}
use Rattle.dp_load.specs.Texts as loads
use Rattle.dp_load.proofs.OrderLemmas.{all_listed, all_read_behind, ends_at_input, ends_at_last, ends_at_list, ends_at_plans, ends_at_program}
use Rattle.dp_load.proofs.OrderLemmas.{listed_ends_at_plans, nothing_behind}
use Rattle.dp_messages.specs.Finding.{Finds, IsRead, IsRefused, IsUnread}
use Rattle.dp_messages.specs.declared.reason.Finding.TheVariants as finding
use Rattle.dp_messages.specs.steps.Runs.{ReadsRun, ReadsRunAlone}

-- a program under a name
pub named : {contents : Contents} {name : List ℕ} {read : Result Program Refusal} → ReadsProgram contents name read → ProgramOf contents (Some name) read
named {name = name} {read = read} h = NamedProgram name h.text read h.held h.reads

-- the verbs that read the texts of a run
pub for_audit : (run : RunAsked) (log : List ℕ) → ReadsRun (ToAudit run log) run
for_audit run log = record { program = refl; input = refl; plans = refl; unlisted = refl }

pub for_resume : (run : RunAsked) (name : List ℕ) → ReadsRun (ToResume run name) run
for_resume run name = record { program = refl; input = refl; plans = refl; unlisted = refl }

module _ (contents : Contents) (asked : Asked) (run : RunAsked) (of : ReadsRun asked run) where
  program_read : (read : Result Program Refusal) → ReadsProgram contents run.program read → ProgramOf contents (program_in asked) read
  program_read read h = subst (λ (o : Option (List ℕ)). ProgramOf contents o read) (sym of.program) (named h)

  input_read : (read : Result (List ℤ) Refusal) → Input contents run.input read → Input contents (input_in asked) read
  input_read read k = subst (λ (o : Option (List ℕ)). Input contents o read) (sym of.input) k

  plans_read : (p : Program) (read : Result (List Plan) Refusal) → Plans contents (expand p) run.options run.source read →
      PlansOf contents (expand p) (plans_asked asked) read
  plans_read p read l =
      subst (λ (o : Option (Source × PlanOptions)). PlansOf contents (expand p) o read) (sym of.plans) (SomePlans run.source run.options read l)

  module _ (words : List (List ℕ)) (asks : Asks words asked) (faults after : ℕ) (failed fails : FailedNames) where
    pub run_refused : (refusal : Refusal) → LoadsTexts contents run faults after failed fails (texts.Refused refusal) →
        Finds words contents faults after (finding.Refused refusal)
    run_refused refusal (loads.ProgramRefused other h e f) =
        IsRefused asked refusal asks (ends_at_program contents asked refusal (program_read (Err refusal) h)) e
    run_refused refusal (loads.InputRefused other p h k e f) =
        IsRefused asked refusal asks (ends_at_input contents asked p (program_read (Ok p) h) refusal (input_read (Err refusal) k)) e
    run_refused refusal (loads.PlansRefused other p numbers h k l e f) =
        IsRefused asked refusal asks (ends_at_plans contents asked p (program_read (Ok p) h) numbers (input_read (Ok numbers) k) of.unlisted refusal
        (plans_read p (Err refusal) l)) e

    pub run_unread : (which : Role) → LoadsTexts contents run faults after failed fails (texts.Failed which) →
        Finds words contents faults after (finding.Unread which)
    run_unread which (loads.ProgramFailed less e) = IsUnread which less
    run_unread which (loads.InputFailed p name h k less e) = IsUnread which less
    run_unread which (loads.PlansFailed p numbers name h k l less e) = IsUnread which less

    -- where they were read, what stands behind them decides
    pub run_read : (q : Program) (numbers : List ℤ) (plans : List Plan) (last : LastText) →
        LoadsTexts contents run faults after failed fails (texts.Run q numbers plans) →
        ((p : Program) → q ≡ expand p → LastOf contents (expand p) (last_in asked) (Ok last)) → Finds words contents faults after finding.Nothing
    run_read q numbers plans last (loads.Loaded p x others given is h k l fit e f) behind =
        IsRead asked ((((p, numbers), []), plans), last) asks
        (all_read_behind contents asked p (program_read (Ok p) h) numbers (input_read (Ok numbers) k) of.unlisted plans
        (plans_read p (Ok plans) (subst (λ (y : Program). Plans contents y run.options run.source (Ok plans)) is l)) last (behind p is)) e

    pub last_refused : (q : Program) (numbers : List ℤ) (plans : List Plan) (refusal : Refusal) →
        LoadsTexts contents run faults after failed fails (texts.Run q numbers plans) →
        ((p : Program) → q ≡ expand p → LastOf contents (expand p) (last_in asked) (Err refusal)) → Finds words contents faults after (finding.Refused refusal)
    last_refused q numbers plans refusal (loads.Loaded p x others given is h k l fit e f) behind =
        IsRefused asked refusal asks
        (ends_at_last contents asked p (program_read (Ok p) h) numbers (input_read (Ok numbers) k) of.unlisted plans
        (plans_read p (Ok plans) (subst (λ (y : Program). Plans contents y run.options run.source (Ok plans)) is l)) refusal (behind p is)) e

-- the texts of a run alone
module _ (contents : Contents) (asked : Asked) (run : RunAsked) (of : ReadsRunAlone asked run) (words : List (List ℕ)) (asks : Asks words asked)
    (faults after : ℕ) (failed fails : FailedNames) where
  pub alone_read : (q : Program) (numbers : List ℤ) (plans : List Plan) → LoadsTexts contents run faults after failed fails (texts.Run q numbers plans) →
      Finds words contents faults after finding.Nothing
  alone_read q numbers plans h =
      run_read contents asked run of.texts words asks faults after failed fails q numbers plans Nothing h (λ p is. nothing_behind contents asked p of.alone)

-- a batch
module _ (contents : Contents) (run : RunAsked) (list : List ℕ) (words : List (List ℕ)) (asks : Asks words (ToBatch run list)) (faults after : ℕ)
    (failed fails : FailedNames) where
  abbrev to_batch : Asked
  to_batch = ToBatch run list

  pub batch_refused : (refusal : Refusal) → LoadsBatch contents run list faults after failed fails (batch.Refused refusal) →
      Finds words contents faults after (finding.Refused refusal)
  batch_refused refusal (batches.ProgramRefused other h e f) = IsRefused to_batch refusal asks (ends_at_program contents to_batch refusal (named h)) e
  batch_refused refusal (batches.InputsRefused other p h k e f) =
      IsRefused to_batch refusal asks (ends_at_list contents to_batch p (named h) [] Unnamed refusal k) e
  batch_refused refusal (batches.PlansRefused other p inputs h k l e f) =
      IsRefused to_batch refusal asks (listed_ends_at_plans contents to_batch p (named h) [] Unnamed inputs k refusal
      (SomePlans run.source run.options (Err refusal) l)) e

  pub batch_unread : (which : Role) → LoadsBatch contents run list faults after failed fails (batch.Failed which) →
      Finds words contents faults after (finding.Unread which)
  batch_unread which (batches.ProgramFailed less e) = IsUnread which less
  batch_unread which (batches.ListNotRead p h less e) = IsUnread which less
  batch_unread which (batches.InputNotRead p name h next less e) = IsUnread which less
  batch_unread which (batches.PlansFailed p inputs name h k l less e) = IsUnread which less

  pub batch_read : (q : Program) (inputs : List (List ℤ)) (plans : List Plan) → LoadsBatch contents run list faults after failed fails
      (batch.Run q inputs plans) → Finds words contents faults after finding.Nothing
  batch_read q inputs plans (batches.BatchLoaded p x others more is h k l fit e f) =
      IsRead to_batch ((((p, []), inputs), plans), Nothing) asks
      (all_listed contents to_batch p (named h) [] Unnamed inputs k plans
      (SomePlans run.source run.options (Ok plans) (subst (λ (y : Program). Plans contents y run.options run.source (Ok plans)) is l)) refl) e
