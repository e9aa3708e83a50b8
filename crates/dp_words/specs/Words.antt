-- The words after the program's name, and what they ask for: a verb, and behind it the words of the verb's command.
use Rattle.std.specs.Prelude.{ℕ, List, ◌∷◌, codes}
use Rattle.clap.specs.Words.{App, Text}
use Rattle.dp_words.specs.declared.task.GenWords.{GenWords}
use Rattle.dp_words.specs.declared.task.Place.{Place}
use Rattle.dp_words.specs.declared.task.Task.{Task}
use Rattle.dp_words.specs.declared.task.Task.TheVariants as task
use Rattle.dp_words.specs.Commands.{CommandTakes, audit_app, batch_app, check_app, explain_app, gen_app, log_app, plan_app, profile_app, resume_app, run_app}
use Rattle.dp_words.specs.Commands.{save_app, tree_app, value_given}
use Rattle.dp_words.specs.Values.{OptionsWithin, Values}
use Rattle.dp_words.specs.Run.{RunAsked, RunWithin, ShowsNamed, ShowsRun, shown}
use Rattle.dp_words.specs.Planning.{Planning, ShowsPlanning, shown_planning}
use Rattle.dp_words.specs.Sites.{ShowsSites}
use Rattle.dp_words.specs.Profiling.{Profiling, ProfilingWithin, ShowsProfiling, shown_profiling}
use Rattle.dp_words.specs.Made.{MadeWithin, ShowsMade}
use Rattle.dp_words.specs.Saving.{PlaceWithin, ShowsSaving}

-- the command takes the words, and they give it the values of this
pub record Names {X : Type 0} (app : App) (Shows : Values → X → Type 0) (words : List Text) (x : X) : Type 0 where
  pub taken : CommandTakes app words
  pub shows : Shows (value_given app words) x

-- the words are this verb, and behind it those of its command
pub data AsksBy {X : Type 0} (verb : Text) (app : App) (Shows : Values → X → Type 0) : List Text → X → Type 0 where
  Behind : (words : List Text) (x : X) → Names app Shows words x → AsksBy verb app Shows (verb ∷ words) x

-- What words may ask for: a run, least plans, what they rest on, the list of this program's sites, this program as a tree, a profile, or a run of the made
-- program; the log of a run,
-- whether the log of this name is a run's, a run up to this place, a run from the checkpoint of this name on, or a run of each input that the list of this name
-- has.
pub data Asked : Type 0 where
  ToRun : RunAsked → Asked
  ToPlan : Planning → Asked
  ToExplain : Planning → Asked
  ToList : List ℕ → Asked
  ToTree : List ℕ → Asked
  ToProfile : Profiling → Asked
  ToMake : GenWords → Asked
  ToLog : RunAsked → Asked
  ToAudit : RunAsked → List ℕ → Asked
  ToSave : RunAsked → Place → Asked
  ToResume : RunAsked → List ℕ → Asked
  ToBatch : RunAsked → List ℕ → Asked

-- the words ask for it
abbrev pub Asks : List Text → Asked → Type 0
Asks words (ToRun run) = AsksBy (codes "run") run_app ShowsRun words run
Asks words (ToPlan planning) = AsksBy (codes "plan") plan_app ShowsPlanning words planning
Asks words (ToExplain planning) = AsksBy (codes "explain") explain_app ShowsPlanning words planning
Asks words (ToList program) = AsksBy (codes "check") check_app ShowsSites words program
Asks words (ToTree program) = AsksBy (codes "tree") tree_app ShowsSites words program
Asks words (ToProfile profiling) = AsksBy (codes "profile") profile_app ShowsProfiling words profiling
Asks words (ToMake made) = AsksBy (codes "gen") gen_app ShowsMade words made
Asks words (ToLog run) = AsksBy (codes "log") log_app ShowsRun words run
Asks words (ToAudit run log) = AsksBy (codes "audit") audit_app (ShowsNamed (codes "log")) words (run, log)
Asks words (ToSave run place) = AsksBy (codes "save") save_app ShowsSaving words (run, place)
Asks words (ToResume run checkpoint) = AsksBy (codes "resume") resume_app (ShowsNamed (codes "checkpoint")) words (run, checkpoint)
Asks words (ToBatch run list) = AsksBy (codes "batch") batch_app (ShowsNamed (codes "list")) words (run, list)

-- they ask for nothing that the program does
abbrev pub AsksNothing : List Text → Type 0
AsksNothing words = (asked : Asked) → ¬ Asks words asked

-- what a task asks for
abbrev pub asked_by : Task → Asked
asked_by (task.Run run) = ToRun (shown run)
asked_by (task.Plan plan) = ToPlan (shown_planning plan)
asked_by (task.Explain plan) = ToExplain (shown_planning plan)
asked_by (task.Check program) = ToList program.now
asked_by (task.Tree program) = ToTree program.now
asked_by (task.Profile profile) = ToProfile (shown_profiling profile)
asked_by (task.Gen made) = ToMake made
asked_by (task.Log run) = ToLog (shown run)
asked_by (task.Audit run log) = ToAudit (shown run) log.now
asked_by (task.Save run place) = ToSave (shown run) place
asked_by (task.Resume run checkpoint) = ToResume (shown run) checkpoint.now
asked_by (task.Batch run list) = ToBatch (shown run) list.now

-- its numbers are within their limits
abbrev pub IsWithin : Task → Type 0
IsWithin (task.Run run) = RunWithin (shown run)
IsWithin (task.Plan plan) = OptionsWithin plan.options
IsWithin (task.Explain plan) = OptionsWithin plan.options
IsWithin (task.Check program) = Unit {0}
IsWithin (task.Tree program) = Unit {0}
IsWithin (task.Profile profile) = ProfilingWithin (shown_profiling profile)
IsWithin (task.Gen made) = MadeWithin made
IsWithin (task.Log run) = RunWithin (shown run)
IsWithin (task.Audit run log) = RunWithin (shown run)
IsWithin (task.Save run place) = RunWithin (shown run) × PlaceWithin place
IsWithin (task.Resume run checkpoint) = RunWithin (shown run)
IsWithin (task.Batch run list) = RunWithin (shown run)
