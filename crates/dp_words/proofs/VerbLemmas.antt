-- What the words ask for, by their verb and the words behind it.
use Rattle.std.proofs.Common.{◌≡◌, ◌∙◌, sym, false, true, List, [], ◌∷◌, codes, refl}
use Rattle.std.specs.Str.{bytes_eq}
use Rattle.std.proofs.lemmas.Slice.Eq.{bytes_eq-Decides}
use Rattle.clap.specs.Words.{App, Text}
use Rattle.dp_words.specs.Commands.{audit_app, batch_app, check_app, explain_app, gen_app, log_app, plan_app, profile_app, resume_app, run_app, save_app}
use Rattle.dp_words.specs.Commands.{tree_app}
use Rattle.dp_words.specs.Words.{Asked, Asks, AsksBy, Behind, Names, ToAudit, ToBatch, ToExplain, ToList, ToLog, ToMake, ToPlan, ToProfile, ToResume, ToRun}
use Rattle.dp_words.specs.Words.{ToSave, ToTree}
use Rattle.dp_words.specs.Values.{Values}
use Rattle.dp_words.specs.Run.{ShowsNamed, ShowsRun}
use Rattle.dp_words.specs.Planning.{ShowsPlanning}
use Rattle.dp_words.specs.Sites.{ShowsSites}
use Rattle.dp_words.specs.Profiling.{ShowsProfiling}
use Rattle.dp_words.specs.Made.{ShowsMade}
use Rattle.dp_words.specs.Saving.{ShowsSaving}
use Rattle.dp_words.specs.steps.Verbs.{Shows, app_by, verb_for, verb_name}

pub apart : (a b : Text) → bytes_eq a b ≡ false → a ≡ b → ⊥
apart a b f e =
    let bad : false ≡ true = sym f ∙ (bytes_eq-Decides a b).1 e in
    absurd (cc bad)

abbrev first_word : List Text → Text
first_word [] = []
first_word (first ∷ words) = first

-- the words behind the verb
abbrev pub behind : List Text → List Text
behind [] = []
behind (first ∷ words) = words

module _ {X : Type 0} (first : Text) (app : App) (Own : Values → X → Type 0) where
  pub verb_is : {words : List Text} {x : X} → AsksBy first app Own words x → first_word words ≡ first
  verb_is (Behind words x h) = refl

  pub named_behind : {words : List Text} {x : X} → AsksBy first app Own words x → Names app Own (behind words) x
  named_behind (Behind words x h) = h

-- ---- the verbs

-- the verb of what is asked for
abbrev pub verb_of : Asked → Text
verb_of asked = verb_name (verb_for asked)

abbrev pub NamesOf : List Text → Asked → Type 0
NamesOf words asked = Names (app_by (verb_for asked)) Shows words asked

pub asks_verb : (words : List Text) (asked : Asked) → Asks words asked → first_word words ≡ verb_of asked
asks_verb words (ToRun run) h = verb_is (codes "run") run_app ShowsRun h
asks_verb words (ToPlan planning) h = verb_is (codes "plan") plan_app ShowsPlanning h
asks_verb words (ToExplain planning) h = verb_is (codes "explain") explain_app ShowsPlanning h
asks_verb words (ToList program) h = verb_is (codes "check") check_app ShowsSites h
asks_verb words (ToTree program) h = verb_is (codes "tree") tree_app ShowsSites h
asks_verb words (ToProfile profiling) h = verb_is (codes "profile") profile_app ShowsProfiling h
asks_verb words (ToMake made) h = verb_is (codes "gen") gen_app ShowsMade h
asks_verb words (ToLog run) h = verb_is (codes "log") log_app ShowsRun h
asks_verb words (ToAudit run log) h = verb_is (codes "audit") audit_app (ShowsNamed (codes "log")) h
asks_verb words (ToSave run place) h = verb_is (codes "save") save_app ShowsSaving h
asks_verb words (ToResume run checkpoint) h = verb_is (codes "resume") resume_app (ShowsNamed (codes "checkpoint")) h
asks_verb words (ToBatch run list) h = verb_is (codes "batch") batch_app (ShowsNamed (codes "list")) h

-- what is asked for is what the words behind the verb name, and the reverse
same_names : {X : Type 0} {app : App} {Own : Values → X → Type 0} {words : List Text} {x : X} (asked : Asked) →
    ((value : Values) → Own value x → Shows value asked) → Names app Own words x → Names app Shows words asked
same_names asked weaker h = record { taken = h.taken; shows = weaker _ h.shows }

pub asks_names : (words : List Text) (asked : Asked) → Asks words asked → NamesOf (behind words) asked
asks_names words (ToRun run) h = same_names (ToRun run) (λ value k. k) (named_behind (codes "run") run_app ShowsRun h)
asks_names words (ToPlan planning) h = same_names (ToPlan planning) (λ value k. k) (named_behind (codes "plan") plan_app ShowsPlanning h)
asks_names words (ToExplain planning) h = same_names (ToExplain planning) (λ value k. k) (named_behind (codes "explain") explain_app ShowsPlanning h)
asks_names words (ToTree program) h = same_names (ToTree program) (λ value k. k) (named_behind (codes "tree") tree_app ShowsSites h)
asks_names words (ToList program) h = same_names (ToList program) (λ value k. k) (named_behind (codes "check") check_app ShowsSites h)
asks_names words (ToProfile profiling) h = same_names (ToProfile profiling) (λ value k. k) (named_behind (codes "profile") profile_app ShowsProfiling h)
asks_names words (ToMake made) h = same_names (ToMake made) (λ value k. k) (named_behind (codes "gen") gen_app ShowsMade h)
asks_names words (ToLog run) h = same_names (ToLog run) (λ value k. k) (named_behind (codes "log") log_app ShowsRun h)
asks_names words (ToAudit run log) h = same_names (ToAudit run log) (λ value k. k) (named_behind (codes "audit") audit_app (ShowsNamed (codes "log")) h)
asks_names words (ToSave run place) h = same_names (ToSave run place) (λ value k. k) (named_behind (codes "save") save_app ShowsSaving h)
asks_names words (ToResume run checkpoint) h =
    same_names (ToResume run checkpoint) (λ value k. k) (named_behind (codes "resume") resume_app (ShowsNamed (codes "checkpoint")) h)
asks_names words (ToBatch run list) h = same_names (ToBatch run list) (λ value k. k) (named_behind (codes "batch") batch_app (ShowsNamed (codes "list")) h)

pub asks : (words : List Text) (asked : Asked) → NamesOf words asked → Asks (verb_of asked ∷ words) asked
asks words (ToRun run) h = Behind words run (record { taken = h.taken; shows = h.shows })
asks words (ToPlan planning) h = Behind words planning (record { taken = h.taken; shows = h.shows })
asks words (ToExplain planning) h = Behind words planning (record { taken = h.taken; shows = h.shows })
asks words (ToList program) h = Behind words program (record { taken = h.taken; shows = h.shows })
asks words (ToTree program) h = Behind words program (record { taken = h.taken; shows = h.shows })
asks words (ToProfile profiling) h = Behind words profiling (record { taken = h.taken; shows = h.shows })
asks words (ToMake made) h = Behind words made (record { taken = h.taken; shows = h.shows })
asks words (ToLog run) h = Behind words run (record { taken = h.taken; shows = h.shows })
asks words (ToAudit run log) h = Behind words (run, log) (record { taken = h.taken; shows = h.shows })
asks words (ToSave run place) h = Behind words (run, place) (record { taken = h.taken; shows = h.shows })
asks words (ToResume run checkpoint) h = Behind words (run, checkpoint) (record { taken = h.taken; shows = h.shows })
asks words (ToBatch run list) h = Behind words (run, list) (record { taken = h.taken; shows = h.shows })
