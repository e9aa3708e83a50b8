-- What the texts of a program, of its input and of its plans are read as, by what the words ask for.
use Rattle.std.specs.Prelude.{◌≡◌, ℕ, List, [], ℤ, Option, Some, None, Result, Ok, Err, IfSome}
use Rattle.dp_tree.specs.declared.Program.{Program}
use Rattle.dp_report.specs.Generator.{made_text}
use Rattle.dp_words.specs.declared.task.PlanOptions.{PlanOptions}
use Rattle.dp_words.specs.Run as source
use Rattle.dp_words.specs.Run.{Source, Least}
use Rattle.dp_words.specs.Words.{Asked, ToRun, ToPlan, ToExplain, ToList, ToTree, ToProfile, ToMake, ToLog, ToAudit, ToSave, ToResume, ToBatch}
use Rattle.dp_plan.specs.declared.Plan.{Plan}
use Rattle.dp_profile.specs.declared.Profile.{Profile}
use Rattle.dp_refusal.specs.declared.refusal.Refusal.{Refusal}
use Rattle.dp_load.specs.Inputs.{input_of}
use Rattle.dp_load.specs.Plans.{MakesPlans, ReadsPlans}
use Rattle.dp_load.specs.Profiles.{ReadsProfile}
use Rattle.dp_load.specs.Program.{Reads}

-- what a shelf holds under each name, where it tells it
abbrev pub Contents : Type 0
Contents = Option (List ℕ → Option (List ℕ))

-- the shelf holds the text under the name, so far as it tells
abbrev pub HoldsText : Contents → List ℕ → List ℕ → Type 0
HoldsText contents name text = IfSome contents (λ held. held name ≡ Some text)

-- ---- the program

-- the name of the program's text, if it has one: the made program has none
abbrev pub program_in : Asked → Option (List ℕ)
program_in (ToRun run) = Some run.program
program_in (ToPlan planning) = Some planning.program
program_in (ToExplain planning) = Some planning.program
program_in (ToList program) = Some program
program_in (ToTree program) = Some program
program_in (ToProfile profiling) = Some profiling.program
program_in (ToMake made) = None
program_in (ToLog run) = Some run.program
program_in (ToAudit run log) = Some run.program
program_in (ToSave run place) = Some run.program
program_in (ToResume run checkpoint) = Some run.program
program_in (ToBatch run list) = Some run.program

-- what the program's text is read as: that under the name, or the made one
pub data ProgramOf (contents : Contents) : Option (List ℕ) → Result Program Refusal → Type 0 where
  MadeProgram : (read : Result Program Refusal) → Reads made_text read → ProgramOf contents None read
  NamedProgram : (name text : List ℕ) (read : Result Program Refusal) → HoldsText contents name text → Reads text read → ProgramOf contents (Some name) read

-- ---- the input

-- the name of the input's text, if it has one
abbrev pub input_in : Asked → Option (List ℕ)
input_in (ToRun run) = run.input
input_in (ToPlan planning) = None
input_in (ToExplain planning) = None
input_in (ToList program) = None
input_in (ToTree program) = None
input_in (ToProfile profiling) = profiling.input
input_in (ToMake made) = None
input_in (ToLog run) = run.input
input_in (ToAudit run log) = run.input
input_in (ToSave run place) = run.input
input_in (ToResume run checkpoint) = run.input
input_in (ToBatch run list) = None

-- what an input's text under the name is read as
pub record ReadsInput (contents : Contents) (name : List ℕ) (read : Result (List ℤ) Refusal) : Type 0 where
  pub text : List ℕ
  pub held : HoldsText contents name text
  pub reads : read ≡ input_of text

-- the input: no numbers where none is named, and else what the text under the name gives
pub data Input (contents : Contents) : Option (List ℕ) → Result (List ℤ) Refusal → Type 0 where
  Unnamed : Input contents None (Ok [])
  Named : (name : List ℕ) (read : Result (List ℤ) Refusal) → ReadsInput contents name read → Input contents (Some name) read

-- ---- the plans

-- where plans come from and how least ones are made, if there are to be plans
abbrev pub plans_asked : Asked → Option (Source × PlanOptions)
plans_asked (ToRun run) = Some (run.source, run.options)
plans_asked (ToPlan planning) = Some (Least planning.profile, planning.options)
plans_asked (ToExplain planning) = Some (Least planning.profile, planning.options)
plans_asked (ToList program) = None
plans_asked (ToTree program) = None
plans_asked (ToProfile profiling) = None
plans_asked (ToMake made) = Some (Least None, made.options)
plans_asked (ToLog run) = Some (run.source, run.options)
plans_asked (ToAudit run log) = Some (run.source, run.options)
plans_asked (ToSave run place) = Some (run.source, run.options)
plans_asked (ToResume run checkpoint) = Some (run.source, run.options)
plans_asked (ToBatch run list) = Some (run.source, run.options)

-- the name of the text that plans rest on, if there is one
abbrev pub source_name : Source → Option (List ℕ)
source_name (source.Named name) = Some name
source_name (Least profile) = profile

-- a profile, if there is one
abbrev pub some_read : Result Profile Refusal → Result (Option Profile) Refusal
some_read (Ok profile) = Ok (Some profile)
some_read (Err refusal) = Err refusal

-- the profile of least plans: none where none is named, and else what the text under the name gives
pub data Profiled (contents : Contents) (p : Program) : Option (List ℕ) → Result (Option Profile) Refusal → Type 0 where
  NotNamed : Profiled contents p None (Ok None)
  NamedProfile : (name text : List ℕ) (read : Result Profile Refusal) → HoldsText contents name text → ReadsProfile p text read →
      Profiled contents p (Some name) (some_read read)

-- the plans of this expanded program: the least ones, by their profile, or what the text under the name gives
pub data Plans (contents : Contents) (p : Program) (options : PlanOptions) : Source → Result (List Plan) Refusal → Type 0 where
  Automatic : (name : Option (List ℕ)) (profile : Option Profile) (plans : List Plan) → Profiled contents p name (Ok profile) →
      MakesPlans p options profile plans → Plans contents p options (Least name) (Ok plans)
  ProfileRefused : (name : Option (List ℕ)) (refusal : Refusal) → Profiled contents p name (Err refusal) → Plans contents p options (Least name) (Err refusal)
  Planned : (name text : List ℕ) (read : Result (List Plan) Refusal) → HoldsText contents name text → ReadsPlans p text read →
      Plans contents p options (source.Named name) read

-- none where there are to be none
pub data PlansOf (contents : Contents) (p : Program) : Option (Source × PlanOptions) → Result (List Plan) Refusal → Type 0 where
  NoPlans : PlansOf contents p None (Ok [])
  SomePlans : (source : Source) (options : PlanOptions) (read : Result (List Plan) Refusal) → Plans contents p options source read →
      PlansOf contents p (Some (source, options)) read
