-- Words ask for one thing only.
use Rattle.std.proofs.Common.{◌≡◌, refl, sym, ap, ap₂, ◌∙◌, ℕ, List, Some, None, codes}
use Rattle.clap.specs.Words.{App, Text}
use Rattle.dp_words.proofs.VerbLemmas.{apart, asks_verb, behind, named_behind, verb_of}
use Rattle.dp_words.specs.Commands.{audit_app, batch_app, check_app, explain_app, gen_app, log_app, plan_app, profile_app, resume_app, run_app, save_app}
use Rattle.dp_words.specs.Commands.{tree_app, value_given}
use Rattle.dp_words.specs.declared.task.GenWords.{GenWords}
use Rattle.dp_words.specs.declared.task.Place.{Place}
use Rattle.dp_words.specs.Words.{Asked, Asks, AsksBy, ToAudit, ToBatch, ToExplain, ToList, ToLog, ToMake, ToPlan, ToProfile, ToResume, ToRun, ToSave, ToTree}
use Rattle.dp_words.specs.Values.{Values, default_fuel, default_rate, default_stages, fuel_in, is_set, lane_in, options_in, workers_in}
use Rattle.dp_words.specs.Run.{RunAsked, Source, ShowsNamed, ShowsRun}
use Rattle.dp_words.specs.Saving.{ShowsSaving}
use Rattle.dp_words.specs.Planning.{Planning, ShowsPlanning}
use Rattle.dp_words.specs.Sites.{ShowsSites}
use Rattle.dp_words.specs.Profiling.{Profiling, ShowsProfiling}
use Rattle.dp_words.specs.Made.{ShowsMade}
use Rattle.dp_drive.specs.Answer.{run_fuel}

-- the run that values stand for
abbrev run_from : Values → Text → Source → RunAsked
run_from value program plans = record {
  program = program;
  input = value (codes "input");
  source = plans;
  options = options_in value;
  lane = lane_in value;
  fuel = fuel_in value;
  why = is_set (value (codes "why"));
}

run_is : (value : Values) (run : RunAsked) → ShowsRun value run → run_from value run.program run.source ≡ run
run_is value run h = rw (h.input, ← h.options, ← h.lane, ← h.fuel, ← h.why) refl

runs_once : (value : Values) (run other : RunAsked) → ShowsRun value run → ShowsRun value other → run ≡ other
runs_once value run other a b =
    let program : Some run.program ≡ Some other.program = sym a.program ∙ b.program in
    let plans : Some run.source ≡ Some other.source = sym a.source ∙ b.source in
    sym (run_is value run a) ∙ ap₂ (run_from value) (cc program) (cc plans) ∙ run_is value other b

abbrev planning_from : Values → Text → Planning
planning_from value program = record { program = program; profile = value (codes "profile"); options = options_in value }

planning_is : (value : Values) (planning : Planning) → ShowsPlanning value planning → planning_from value planning.program ≡ planning
planning_is value planning h = rw (h.profile, ← h.options) refl

plannings_once : (value : Values) (planning other : Planning) → ShowsPlanning value planning → ShowsPlanning value other → planning ≡ other
plannings_once value planning other a b =
    let program : Some planning.program ≡ Some other.program = sym a.program ∙ b.program in
    sym (planning_is value planning a) ∙ ap (planning_from value) (cc program) ∙ planning_is value other b

programs_once : (value : Values) (program other : List ℕ) → ShowsSites value program → ShowsSites value other → program ≡ other
programs_once value program other a b = let same : Some program ≡ Some other = sym a ∙ b in cc same

abbrev profiling_from : Values → Text → Profiling
profiling_from value program = record { program = program; input = value (codes "input"); fuel = fuel_in value }

profiling_is : (value : Values) (profiling : Profiling) → ShowsProfiling value profiling → profiling_from value profiling.program ≡ profiling
profiling_is value profiling h = rw (h.input, ← h.fuel) refl

profilings_once : (value : Values) (profiling other : Profiling) → ShowsProfiling value profiling → ShowsProfiling value other → profiling ≡ other
profilings_once value profiling other a b =
    let program : Some profiling.program ≡ Some other.program = sym a.program ∙ b.program in
    sym (profiling_is value profiling a) ∙ ap (profiling_from value) (cc program) ∙ profiling_is value other b

abbrev made_from : Values → ℕ → ℕ → GenWords
made_from value seed size =
    record {
      seed = seed;
      size = size;
      options = record { rate = default_rate; stages = default_stages; workers = workers_in value };
      lane = lane_in value;
      fuel = default_fuel;
    }

made_is : (value : Values) (made : GenWords) → ShowsMade value made → made_from value made.seed made.size ≡ made
made_is value made h = rw (← h.options, ← h.lane, ← h.fuel) refl

mades_once : (value : Values) (made other : GenWords) → ShowsMade value made → ShowsMade value other → made ≡ other
mades_once value made other a b =
    let seed : Some made.seed ≡ Some other.seed = sym a.seed ∙ b.seed in
    let size : Some made.size ≡ Some other.size = sym a.size ∙ b.size in
    sym (made_is value made a) ∙ ap₂ (made_from value) (cc seed) (cc size) ∙ made_is value other b

-- a run with the name of a further text, and one with a place
named_once : (id : Text) (value : Values) (a b : RunAsked × List ℕ) → ShowsNamed id value a → ShowsNamed id value b → a ≡ b
named_once id value (run, name) (other, called) h k =
    let same : Some name ≡ Some called = sym h.name ∙ k.name in
    ap₂ (λ (r : RunAsked) (n : List ℕ). (r, n)) (runs_once value run other h.run k.run) (cc same)

abbrev place_from : ℕ → ℕ → Place
place_from region after = record { region = region; after = after }

savings_once : (value : Values) (a b : RunAsked × Place) → ShowsSaving value a → ShowsSaving value b → a ≡ b
savings_once value (run, place) (other, there) h k =
    let region : Some place.region ≡ Some there.region = sym h.region ∙ k.region in
    let after : Some place.after ≡ Some there.after = sym h.after ∙ k.after in
    ap₂ (λ (r : RunAsked) (at : Place). (r, at)) (runs_once value run other h.run k.run) (ap₂ place_from (cc region) (cc after))

abbrev named_asked : (RunAsked → List ℕ → Asked) → RunAsked × List ℕ → Asked
named_asked to x = to x.0 x.1

-- the words of one verb
once_by : {X : Type 0} (verb : Text) (app : App) (Shows : Values → X → Type 0) → ((value : Values) (x y : X) → Shows value x → Shows value y → x ≡ y) →
    {words : List Text} {x y : X} →
    AsksBy verb app Shows words x → AsksBy verb app Shows words y → x ≡ y
once_by verb app Shows once {words = words} {x = x} {y = y} a b =
    once (value_given app (behind words)) x y (named_behind verb app Shows a).shows (named_behind verb app Shows b).shows

-- of one verb
of_verb : (words : List Text) (a b : Asked) → verb_of a ≡ verb_of b → Asks words a → Asks words b → a ≡ b
of_verb words (ToRun a) (ToRun b) e h k = ap ToRun (once_by (codes "run") run_app ShowsRun runs_once h k)
of_verb words (ToPlan a) (ToPlan b) e h k = ap ToPlan (once_by (codes "plan") plan_app ShowsPlanning plannings_once h k)
of_verb words (ToExplain a) (ToExplain b) e h k = ap ToExplain (once_by (codes "explain") explain_app ShowsPlanning plannings_once h k)
of_verb words (ToList a) (ToList b) e h k = ap ToList (once_by (codes "check") check_app ShowsSites programs_once h k)
of_verb words (ToTree a) (ToTree b) e h k = ap ToTree (once_by (codes "tree") tree_app ShowsSites programs_once h k)
of_verb words (ToProfile a) (ToProfile b) e h k = ap ToProfile (once_by (codes "profile") profile_app ShowsProfiling profilings_once h k)
of_verb words (ToMake a) (ToMake b) e h k = ap ToMake (once_by (codes "gen") gen_app ShowsMade mades_once h k)
of_verb words (ToLog a) (ToLog b) e h k = ap ToLog (once_by (codes "log") log_app ShowsRun runs_once h k)
of_verb words (ToAudit a x) (ToAudit b y) e h k =
    ap (named_asked ToAudit) (once_by (codes "audit") audit_app (ShowsNamed (codes "log")) (named_once (codes "log")) h k)
of_verb words (ToSave a x) (ToSave b y) e h k = ap (λ (z : RunAsked × Place). ToSave z.0 z.1) (once_by (codes "save") save_app ShowsSaving savings_once h k)
of_verb words (ToResume a x) (ToResume b y) e h k =
    ap (named_asked ToResume) (once_by (codes "resume") resume_app (ShowsNamed (codes "checkpoint")) (named_once (codes "checkpoint")) h k)
of_verb words (ToBatch a x) (ToBatch b y) e h k =
    ap (named_asked ToBatch) (once_by (codes "batch") batch_app (ShowsNamed (codes "list")) (named_once (codes "list")) h k)
of_verb words a b e h k = absurd (apart (verb_of a) (verb_of b) refl e)

pub asks_once : (words : List Text) (a b : Asked) → Asks words a → Asks words b → a ≡ b
asks_once words a b h k = of_verb words a b (sym (asks_verb words a h) ∙ asks_verb words b k) h k

-- words that ask for something else ask for no run
pub no_run : (words : List Text) (other : Asked) → run_fuel other ≡ None → Asks words other → (asked : Asked) (fuel : ℕ) → Asks words asked →
    run_fuel asked ≡ Some fuel → ⊥
no_run words other none h asked fuel k some =
    let clash : None ≡ Some fuel = sym none ∙ ap run_fuel (asks_once words other asked h k) ∙ some in
    absurd (cc clash)
