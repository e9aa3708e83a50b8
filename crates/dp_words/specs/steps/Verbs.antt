-- The verbs: their words and commands, and what is asked for by each.
use Rattle.std.specs.Prelude.{◌≡◌, List, Option, IfSome, IfNone, codes}
use Rattle.clap.specs.Words.{App, Text}
use Rattle.dp_words.specs.declared.task.Task.{Task}
use Rattle.dp_words.specs.declared.verb.Verb.{Verb}
use Rattle.dp_words.specs.declared.verb.Verb.TheVariants as verb
use Rattle.dp_words.specs.Commands.{audit_app, batch_app, check_app, explain_app, gen_app, log_app, plan_app, profile_app, resume_app, run_app, save_app}
use Rattle.dp_words.specs.Commands.{tree_app}
use Rattle.dp_words.specs.Words.{Asked, Asks, AsksNothing, IsWithin, ToAudit, ToBatch, ToExplain, ToList, ToLog, ToMake, ToPlan, ToProfile, ToResume, ToRun}
use Rattle.dp_words.specs.Words.{ToSave, ToTree, asked_by}
use Rattle.dp_words.specs.Values.{Values}
use Rattle.dp_words.specs.Run.{ShowsNamed, ShowsRun}
use Rattle.dp_words.specs.Planning.{ShowsPlanning}
use Rattle.dp_words.specs.Sites.{ShowsSites}
use Rattle.dp_words.specs.Profiling.{ShowsProfiling}
use Rattle.dp_words.specs.Made.{ShowsMade}
use Rattle.dp_words.specs.Saving.{ShowsSaving}

-- the word
abbrev pub verb_name : Verb → Text
verb_name verb.Run = codes "run"
verb_name verb.Plan = codes "plan"
verb_name verb.Explain = codes "explain"
verb_name verb.Check = codes "check"
verb_name verb.Tree = codes "tree"
verb_name verb.Profile = codes "profile"
verb_name verb.Gen = codes "gen"
verb_name verb.Log = codes "log"
verb_name verb.Audit = codes "audit"
verb_name verb.Save = codes "save"
verb_name verb.Resume = codes "resume"
verb_name verb.Batch = codes "batch"

-- the command
abbrev pub app_by : Verb → App
app_by verb.Run = run_app
app_by verb.Plan = plan_app
app_by verb.Explain = explain_app
app_by verb.Check = check_app
app_by verb.Tree = tree_app
app_by verb.Profile = profile_app
app_by verb.Gen = gen_app
app_by verb.Log = log_app
app_by verb.Audit = audit_app
app_by verb.Save = save_app
app_by verb.Resume = resume_app
app_by verb.Batch = batch_app

-- the verb by which it is asked for
abbrev pub verb_for : Asked → Verb
verb_for (ToRun run) = verb.Run
verb_for (ToPlan planning) = verb.Plan
verb_for (ToExplain planning) = verb.Explain
verb_for (ToList program) = verb.Check
verb_for (ToTree program) = verb.Tree
verb_for (ToProfile profiling) = verb.Profile
verb_for (ToMake made) = verb.Gen
verb_for (ToLog run) = verb.Log
verb_for (ToAudit run log) = verb.Audit
verb_for (ToSave run place) = verb.Save
verb_for (ToResume run checkpoint) = verb.Resume
verb_for (ToBatch run list) = verb.Batch

-- the values are those of what is asked for
abbrev pub Shows : Values → Asked → Type 0
Shows value (ToRun run) = ShowsRun value run
Shows value (ToPlan planning) = ShowsPlanning value planning
Shows value (ToExplain planning) = ShowsPlanning value planning
Shows value (ToList program) = ShowsSites value program
Shows value (ToTree program) = ShowsSites value program
Shows value (ToProfile profiling) = ShowsProfiling value profiling
Shows value (ToMake made) = ShowsMade value made
Shows value (ToLog run) = ShowsRun value run
Shows value (ToAudit run log) = ShowsNamed (codes "log") value (run, log)
Shows value (ToSave run place) = ShowsSaving value (run, place)
Shows value (ToResume run checkpoint) = ShowsNamed (codes "checkpoint") value (run, checkpoint)
Shows value (ToBatch run list) = ShowsNamed (codes "list") value (run, list)

-- What the values ask for by this verb: its numbers are within their limits, and there is none exactly where they ask for nothing by it.
pub record Tells (v : Verb) (value : Values) (task : Option Task) : Type 0 where
  pub some : IfSome task (λ t. (verb_for (asked_by t) ≡ v) × Shows value (asked_by t))
  pub within : IfSome task IsWithin
  pub none : IfNone task ((asked : Asked) → verb_for asked ≡ v → ¬ Shows value asked)

-- The same of words.
pub record Answers (words : List Text) (task : Option Task) : Type 0 where
  pub some : IfSome task (λ t. Asks words (asked_by t))
  pub within : IfSome task IsWithin
  pub none : IfNone task (AsksNothing words)
