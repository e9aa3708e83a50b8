-- What the texts of a run give is what the words of each verb that runs one are answered with.
use Rattle.std.proofs.Common.{◌≡◌, refl, sym, ◌∙◌, subst, ℕ, Bool, List, [], ℤ, Option, Some, None, Result, Ok, Err}
use Rattle.dp_tree.specs.declared.Program.{Program}
use Rattle.dp_calls.specs.Expand.{expand}
use Rattle.dp_plan.specs.declared.Plan.{Plan}
use Rattle.dp_edge.specs.declared.writing.WriteFail.{WriteFail}
use Rattle.dp_words.specs.declared.task.PlanOptions.{PlanOptions}
use Rattle.dp_words.specs.Run.{RunAsked, RunWithin, Source}
use Rattle.dp_words.specs.Words.{Asked, Asks}
use Rattle.dp_refusal.specs.declared.role.Role.{Role}
use Rattle.dp_refusal.specs.declared.refusal.Refusal.{Refusal}
use Rattle.dp_refusal.specs.Refusal.{refusal_line, refusal_status, failed_read_line}
use Rattle.dp_load.specs.declared.texts.Texts.TheVariants as texts
use Rattle.dp_load.specs.Last.{LastText, LastOf, Nothing}
use Rattle.dp_load.specs.Loading.{ReadsProgram}
use Rattle.dp_load.specs.Order.{ReadsAll, WithPlans, given_by, last_in, list_in}
use Rattle.dp_load.specs.Roles.{Contents, Input, Plans, PlansOf, ProgramOf, SomePlans, input_in, plans_asked, program_in}
use Rattle.dp_load.specs.Texts.{LoadsTexts, FailedNames}
use Rattle.dp_load.specs.Texts as loads
use Rattle.dp_load.proofs.OrderLemmas.{all_read_behind, ends_at_input, ends_at_last, ends_at_plans, ends_at_program, nothing_behind, with_inputs, with_plans}
use Rattle.dp_load.proofs.accepted.Given.{words_given}
use Rattle.dp_drive.specs.Answer.{OfInput, OfPlans, OfProgram}
use Rattle.dp_drive.specs.Answer as answers
use Rattle.dp_drive.specs.steps.Carried.{Carried, Finishes}
use Rattle.dp_drive.specs.steps.Carried as carried
use Rattle.dp_drive.specs.steps.Given.{MayRun, WereLoaded}
use Rattle.dp_drive.specs.steps.Runs.{Runs}
use Rattle.dp_drive.proofs.AnswerLemmas.{given, named_program}

-- The words ask for something for which the texts of this run are read.
pub record ReadsRun (asked : Asked) (run : RunAsked) : Type 0 where
  pub program : program_in asked ≡ Some run.program
  pub input : input_in asked ≡ run.input
  pub plans : plans_asked asked ≡ Some (run.source, run.options)
  pub unlisted : list_in asked ≡ None

-- where they were read, a run may be made
pub may_run : (contents : Contents) (run : RunAsked) (faults after : ℕ) (failed fails : FailedNames) (q : Program) (numbers : List ℤ) (plans : List Plan) →
    RunWithin run → LoadsTexts contents run faults after failed fails (texts.Run q numbers plans) →
    MayRun run q numbers plans
may_run contents run faults after failed fails q numbers plans within h = record {
  within = within;
  given = given contents run faults after failed fails q numbers plans h;
  words = words_given contents run faults after failed fails q numbers plans h;
}

-- a run by fuel and a wish for causes that are the words'
pub runs_as : {line : List ℕ} {p : Program} {plans : List Plan} {numbers : List ℤ} {fuel asked : ℕ} {why wished : Bool} {told tells : Option (List ℕ)}
    {before now : ℕ} {result : Result ℕ WriteFail} →
    fuel ≡ asked → why ≡ wished → Runs line p plans numbers fuel why told tells before now result →
    Runs line p plans numbers asked wished told tells before now result
runs_as {line} {p} {plans} {numbers} {fuel} {asked} {why} {wished} {told} {tells} {before} {now} {result} same wish runs =
    subst (λ (n : ℕ). Runs line p plans numbers n wished told tells before now result) same
    (subst (λ (w : Bool). Runs line p plans numbers fuel w told tells before now result) wish runs)

-- they were read, whatever was read before
pub were_loaded : (contents : Contents) (run : RunAsked) (faults after : ℕ) (failed fails : FailedNames) (q : Program) (numbers : List ℤ) (plans : List Plan) →
    LoadsTexts contents run faults after failed fails (texts.Run q numbers plans) →
    WereLoaded contents run after fails q numbers plans
were_loaded contents run faults after failed fails q numbers plans (loads.Loaded p x others given is h k l fit e f) =
    loads.Loaded p q numbers plans is h k l fit refl refl

pub same_faults : {contents : Contents} {run : RunAsked} {faults after : ℕ} {failed fails : FailedNames} {q : Program} {numbers : List ℤ} {plans : List Plan} →
    LoadsTexts contents run faults after failed fails (texts.Run q numbers plans) → after ≡ faults
same_faults (loads.Loaded p x others given is h k l fit e f) = e

pub same_names : {contents : Contents} {run : RunAsked} {faults after : ℕ} {failed fails : FailedNames} {q : Program} {numbers : List ℤ} {plans : List Plan} →
    LoadsTexts contents run faults after failed fails (texts.Run q numbers plans) → fails ≡ failed
same_names (loads.Loaded p x others given is h k l fit e f) = f

module _ (contents : Contents) (asked : Asked) (run : RunAsked) (of : ReadsRun asked run) where
  program_read : (read : Result Program Refusal) → ReadsProgram contents run.program read → ProgramOf contents (program_in asked) read
  program_read read h = subst (λ (o : Option (List ℕ)). ProgramOf contents o read) (sym of.program) (named_program h)

  input_read : (read : Result (List ℤ) Refusal) → Input contents run.input read → Input contents (input_in asked) read
  input_read read k = subst (λ (o : Option (List ℕ)). Input contents o read) (sym of.input) k

  plans_read : (p : Program) (read : Result (List Plan) Refusal) → Plans contents (expand p) run.options run.source read →
      PlansOf contents (expand p) (plans_asked asked) read
  plans_read p read l =
      subst (λ (o : Option (Source × PlanOptions)). PlansOf contents (expand p) o read) (sym of.plans) (SomePlans run.source run.options read l)

  -- the source of what was read, and its texts
  pub record WereRead (q : Program) (numbers : List ℤ) (plans : List Plan) : Type 0 where
    pub source : Program
    pub is : q ≡ expand source
    pub reads : ReadsProgram contents run.program (Ok source)
    pub program_is : ProgramOf contents (program_in asked) (Ok source)
    pub input_is : Input contents (input_in asked) (Ok numbers)
    pub plans_are : PlansOf contents (expand source) (plans_asked asked) (Ok plans)

  pub texts_read : (q : Program) (numbers : List ℤ) (plans : List Plan) (faults after : ℕ) (failed fails : FailedNames) →
      LoadsTexts contents run faults after failed fails (texts.Run q numbers plans) → WereRead q numbers plans
  texts_read q numbers plans faults after failed fails (loads.Loaded p x others given is h k l fit e f) = record {
    source = p;
    is = is;
    reads = h;
    program_is = program_read (Ok p) h;
    input_is = input_read (Ok numbers) k;
    plans_are = plans_read p (Ok plans) (subst (λ (y : Program). Plans contents y run.options run.source (Ok plans)) is l);
  }

  module _ (q : Program) (numbers : List ℤ) (plans : List Plan) (t : WereRead q numbers plans) where
    pub all_behind : (last : LastText) → LastOf contents (expand t.source) (last_in asked) (Ok last) →
        ReadsAll contents asked (Ok ((((t.source, numbers), []), plans), last))
    all_behind last m = all_read_behind contents asked t.source t.program_is numbers t.input_is of.unlisted plans t.plans_are last m

    pub all_alone : last_in asked ≡ None → ReadsAll contents asked (Ok ((((t.source, numbers), []), plans), Nothing))
    all_alone alone = all_behind Nothing (nothing_behind contents asked t.source alone)

    pub last_refused : (refusal : Refusal) → LastOf contents (expand t.source) (last_in asked) (Err refusal) → ReadsAll contents asked (Err refusal)
    last_refused refusal m = ends_at_last contents asked t.source t.program_is numbers t.input_is of.unlisted plans t.plans_are refusal m

    pub plans_behind : WithPlans contents asked (Ok (((t.source, numbers), []), plans))
    plans_behind = with_plans contents asked t.source t.program_is numbers t.input_is of.unlisted plans t.plans_are

  module _ (words : List (List ℕ)) (asks : Asks words asked) (faults after : ℕ) (failed fails : FailedNames) (told tells : Option (List ℕ))
      (result : Result ℕ WriteFail) where
    pub carry_refused : (refusal : Refusal) → LoadsTexts contents run faults after failed fails (texts.Refused refusal) →
        Finishes (refusal_status refusal) (refusal_line refusal) told tells result → Carried words contents faults after failed fails told tells result
    carry_refused refusal (loads.ProgramRefused other h e f) finishes =
        carried.OfAnswer _ _ (answers.Refused asked refusal asks (ends_at_program contents asked refusal (program_read (Err refusal) h))) e f finishes
    carry_refused refusal (loads.InputRefused other p h k e f) finishes =
        carried.OfAnswer _ _ (answers.Refused asked refusal asks (ends_at_input contents asked p (program_read (Ok p) h) refusal (input_read (Err refusal) k)))
        e f finishes
    carry_refused refusal (loads.PlansRefused other p numbers h k l e f) finishes =
        carried.OfAnswer _ _ (answers.Refused asked refusal asks (ends_at_plans contents asked p (program_read (Ok p) h) numbers (input_read (Ok numbers) k)
        of.unlisted refusal (plans_read p (Err refusal) l))) e f finishes

    pub carry_failed : (which : Role) → LoadsTexts contents run faults after failed fails (texts.Failed which) →
        Finishes 5 (failed_read_line which) told tells result → Carried words contents faults after failed fails told tells result
    carry_failed which (loads.ProgramFailed less e) finishes = carried.OfFailedRead _ _ (OfProgram asked run.program asks of.program) less e finishes
    carry_failed which (loads.InputFailed p name h named less e) finishes =
        carried.OfFailedRead _ _ (OfInput asked p name asks (program_read (Ok p) h) (of.input ∙ named)) less e finishes
    carry_failed which (loads.PlansFailed p numbers name h k named less e) finishes =
        carried.OfFailedRead _ _ (OfPlans asked ((p, numbers), []) run.source run.options name asks
        (with_inputs contents asked p (program_read (Ok p) h) numbers (input_read (Ok numbers) k) of.unlisted) of.plans named) less e finishes

    -- what is done, where all texts were read
    pub carry_done : (read : (((Program × List ℤ) × List (List ℤ)) × List Plan) × LastText) (bytes : List ℕ) → ReadsAll contents asked (Ok read) →
        answers.BytesFor contents asked (given_by read) bytes → after ≡ faults → fails ≡ failed →
        Finishes (answers.status_for asked (given_by read)) bytes told tells result → Carried words contents faults after failed fails told tells result
    carry_done read bytes all is e f finishes = carried.OfAnswer _ _ (answers.Done asked read bytes asks all is) e f finishes
