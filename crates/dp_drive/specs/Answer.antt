-- What is answered to the words and to the texts that they name: a status, and the bytes that are written.
use Rattle.std.specs.Prelude.{◌≡◌, ℕ, false, List, ◌++◌, ℤ, Option, Some, None, Ok, Err}
use Rattle.dp_tree.specs.declared.Program.{Program}
use Rattle.dp_calls.specs.Expand.{expand}
use Rattle.dp_calls.specs.Frames.{outcome}
use Rattle.dp_report.specs.SiteText.{site_bytes}
use Rattle.dp_tree_text.specs.TreeText.{tree_bytes}
use Rattle.dp_explain.specs.Explanation.{IsExplanation}
use Rattle.dp_words.specs.declared.task.PlanOptions.{PlanOptions}
use Rattle.dp_words.specs.Words.{Asked, Asks, AsksNothing, ToRun, ToPlan, ToExplain, ToList, ToTree, ToProfile, ToMake, ToLog, ToAudit, ToSave, ToResume}
use Rattle.dp_words.specs.Words.{ToBatch}
use Rattle.dp_words.specs.Planning.{Planning}
use Rattle.dp_words.specs.Run.{Source}
use Rattle.dp_run.specs.RunText.{source_run, committed_in_all}
use Rattle.dp_plan.specs.declared.Plan.{Plan}
use Rattle.dp_plan_text.specs.WrittenText.{plans_text}
use Rattle.dp_profile.specs.declared.Profile.{Profile}
use Rattle.dp_profile.specs.Observed.{observed}
use Rattle.dp_profile_text.specs.WrittenText.{profile_text}
use Rattle.dp_refusal.specs.declared.role.Role.{Role}
use Rattle.dp_refusal.specs.declared.role.Role.TheVariants as role
use Rattle.dp_refusal.specs.declared.refusal.Refusal.{Refusal}
use Rattle.dp_refusal.specs.declared.refusal.Refusal.TheVariants.{Words}
use Rattle.dp_refusal.specs.Refusal.{refusal_line, refusal_status, plans_role, exit_status}
use Rattle.dp_load.specs.Roles.{Contents, Profiled, ProgramOf, input_in, source_name, plans_asked, program_in}
use Rattle.dp_load.specs.Last.{LastText, Last, last_name, last_role}
use Rattle.dp_load.specs.Lists.{IsNextListed}
use Rattle.dp_load.specs.Order.{Given, ReadsAll, WithInput, WithInputs, WithPlans, given_by, last_in, list_in}
use Rattle.dp_batch.specs.BatchText.{texts_from}
use Rattle.dp_drive.specs.Made.{made_line, made_words}
use Rattle.dp_drive.specs.RunText.{run_text}
use Rattle.dp_drive.specs.Audit.{audit_line, audit_status, log_in, log_of, first_difference}
use Rattle.dp_drive.specs.Pieces.{checkpoint_in, resumed_end, resumed_text, saved_status, saved_text}

-- the status where all texts were read: that of the run's end, if there is one run, whether the log is that of the run, or 0
abbrev pub status_for : Asked → Given → ℕ
status_for (ToRun run) texts = exit_status (outcome texts.program texts.numbers run.fuel).end
status_for (ToPlan planning) texts = 0
status_for (ToExplain planning) texts = 0
status_for (ToList program) texts = 0
status_for (ToTree program) texts = 0
status_for (ToProfile profiling) texts = exit_status (outcome texts.program texts.numbers profiling.fuel).end
status_for (ToMake made) texts = exit_status (outcome texts.program (made_words made) made.fuel).end
status_for (ToLog run) texts = exit_status (outcome texts.program texts.numbers run.fuel).end
status_for (ToAudit run log) texts = audit_status (first_difference (log_in texts.last) (log_of texts.program texts.plans texts.numbers run.fuel))
status_for (ToSave run place) texts = saved_status texts.program texts.numbers run.fuel place
status_for (ToResume run checkpoint) texts = exit_status (resumed_end texts.program texts.numbers (checkpoint_in texts.last))
status_for (ToBatch run list) texts = 0

-- The bytes explain the least plans of an expanded program: they and their profile give this text.
pub record ExplainsPlans (contents : Contents) (planning : Planning) (p : Program) (plans : List Plan) (bytes : List ℕ) : Type 0 where
  pub profile : Option Profile
  pub counts : Profiled contents p planning.profile (Ok profile)
  pub text : IsExplanation p profile planning.options.rate plans bytes

-- .. and the bytes
abbrev pub BytesFor : Contents → Asked → Given → List ℕ → Type 0
BytesFor contents (ToRun run) texts bytes = bytes ≡ run_text texts.program texts.plans texts.numbers run.fuel run.why
BytesFor contents (ToPlan planning) texts bytes = bytes ≡ plans_text (expand texts.program) texts.plans
BytesFor contents (ToExplain planning) texts bytes = ExplainsPlans contents planning (expand texts.program) texts.plans bytes
BytesFor contents (ToList program) texts bytes = bytes ≡ site_bytes (expand texts.program)
BytesFor contents (ToTree program) texts bytes = bytes ≡ tree_bytes (expand texts.program)
BytesFor contents (ToProfile profiling) texts bytes =
    bytes ≡ profile_text (expand texts.program) (observed (expand texts.program) texts.numbers profiling.fuel).profile
BytesFor contents (ToMake made) texts bytes = bytes ≡ made_line made ++ run_text texts.program texts.plans (made_words made) made.fuel false
BytesFor contents (ToLog run) texts bytes = bytes ≡ log_of texts.program texts.plans texts.numbers run.fuel
BytesFor contents (ToAudit run log) texts bytes =
    bytes ≡ audit_line (first_difference (log_in texts.last) (log_of texts.program texts.plans texts.numbers run.fuel))
BytesFor contents (ToSave run place) texts bytes = bytes ≡ saved_text texts.program texts.plans texts.numbers run.fuel place
BytesFor contents (ToResume run checkpoint) texts bytes = bytes ≡ resumed_text texts.program texts.plans texts.numbers (checkpoint_in texts.last)
BytesFor contents (ToBatch run list) texts bytes = bytes ≡ texts_from (λ input. run_text texts.program texts.plans input run.fuel false) 1 texts.listed

-- The answer: the words ask for nothing, or a text is refused, or what they ask for is done.
pub data Answer (words : List (List ℕ)) (contents : Contents) : ℕ → List ℕ → Type 0 where
  NotTaken : AsksNothing words → Answer words contents (refusal_status Words) (refusal_line Words)
  Refused : (asked : Asked) (refusal : Refusal) → Asks words asked → ReadsAll contents asked (Err refusal) →
      Answer words contents (refusal_status refusal) (refusal_line refusal)
  Done : (asked : Asked) (read : (((Program × List ℤ) × List (List ℤ)) × List Plan) × LastText) (bytes : List ℕ) → Asks words asked →
      ReadsAll contents asked (Ok read) → BytesFor contents asked (given_by read) bytes →
      Answer words contents (status_for asked (given_by read)) bytes

-- The text of this role is to be read under this name: no refusal comes before.
pub data IsRead (words : List (List ℕ)) (contents : Contents) : Role → List ℕ → Type 0 where
  OfProgram : (asked : Asked) (name : List ℕ) → Asks words asked → program_in asked ≡ Some name → IsRead words contents role.Program name
  OfInput : (asked : Asked) (p : Program) (name : List ℕ) → Asks words asked → ProgramOf contents (program_in asked) (Ok p) → input_in asked ≡ Some name →
      IsRead words contents role.Input name
  OfList : (asked : Asked) (read : Program × List ℤ) (name : List ℕ) → Asks words asked → WithInput contents asked (Ok read) → list_in asked ≡ Some name →
      IsRead words contents role.List name
  OfListed : (asked : Asked) (read : Program × List ℤ) (list name : List ℕ) → Asks words asked → WithInput contents asked (Ok read) →
      list_in asked ≡ Some list → IsNextListed contents list name →
      IsRead words contents role.Input name
  OfPlans : (asked : Asked) (read : (Program × List ℤ) × List (List ℤ)) (source : Source) (options : PlanOptions) (name : List ℕ) → Asks words asked →
      WithInputs contents asked (Ok read) →
      plans_asked asked ≡ Some (source, options) → source_name source ≡ Some name → IsRead words contents (plans_role source) name
  OfLast : (asked : Asked) (read : ((Program × List ℤ) × List (List ℤ)) × List Plan) (last : Last) → Asks words asked → WithPlans contents asked (Ok read) →
      last_in asked ≡ Some last →
      IsRead words contents (last_role last) (last_name last)

-- the numbers of a run: the made ones, or those of the input
abbrev pub numbers_for : Asked → List ℤ → List ℤ
numbers_for (ToMake made) numbers = made_words made
numbers_for _ numbers = numbers

-- the fuel of a run in stages, if that is asked for
abbrev pub run_fuel : Asked → Option ℕ
run_fuel (ToRun run) = Some run.fuel
run_fuel (ToMake made) = Some made.fuel
run_fuel _ = None

-- how many iterations of this expanded program's run are committed from the pipeline
abbrev pub committed_of : Program → List Plan → List ℤ → ℕ → ℕ
committed_of p plans numbers fuel = committed_in_all p plans (source_run p numbers fuel)

-- .. of the run that the words ask for
pub data Commits (words : List (List ℕ)) (contents : Contents) : ℕ → Type 0 where
  OfRun : (asked : Asked) (read : (((Program × List ℤ) × List (List ℤ)) × List Plan) × LastText) (fuel : ℕ) → Asks words asked →
      ReadsAll contents asked (Ok read) → run_fuel asked ≡ Some fuel →
      Commits words contents (committed_of (expand (given_by read).program) (given_by read).plans (numbers_for asked (given_by read).numbers) fuel)
