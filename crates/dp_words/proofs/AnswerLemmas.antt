-- What is answered to words, by their verb and by what its command finds in those behind it.
use Rattle.std.proofs.Common.{◌≡◌, ◌∙◌, ap, sym, subst, List, ◌∷◌, map, Option, Some, None, IfSome, IfNone, String, string_bytes}
use Rattle.std.specs.declared.alloc.Global.{Global}
use Rattle.clap.specs.Words.{App, Text}
use Rattle.clap.specs.declared.parser.matches.ArgMatches.{ArgMatches}
use Rattle.dp_words.specs.Commands.{CommandTakes, value_given}
use Rattle.dp_words.specs.Words.{Asked, Asks, AsksNothing, Names, asked_by}
use Rattle.dp_words.specs.Values.{Values}
use Rattle.dp_words.specs.declared.task.Task.{Task}
use Rattle.dp_words.specs.declared.verb.Verb.{Verb}
use Rattle.dp_words.specs.steps.Reading.{Finds, values_of}
use Rattle.dp_words.specs.steps.Verbs.{Answers, Shows, Tells, app_by, verb_for, verb_name}
use Rattle.dp_words.proofs.OwnWord.{same_verb}
use Rattle.dp_words.proofs.VerbLemmas.{NamesOf, asks, asks_names, asks_verb}

-- nothing is asked for by words whose first is no verb
pub none_unknown : (word : Text) (words : List Text) → ((v : Verb) → word ≡ verb_name v → ⊥) → AsksNothing (word ∷ words)
none_unknown word words unknown asked h = unknown (verb_for asked) (asks_verb (word ∷ words) asked h)

module _ (v : Verb) (words : List Text) where
  asked_so : (asked : Asked) → Asks (verb_name v ∷ words) asked → verb_for asked ≡ v
  asked_so asked h = sym (same_verb v (verb_for asked) (asks_verb (verb_name v ∷ words) asked h))

  names_so : (asked : Asked) → Asks (verb_name v ∷ words) asked → Names (app_by v) Shows words asked
  names_so asked h = subst (λ (w : Verb). Names (app_by w) Shows words asked) (asked_so asked h) (asks_names (verb_name v ∷ words) asked h)

  -- words that the verb's command doesn't take
  pub not_taken : ¬ CommandTakes (app_by v) words → Answers (verb_name v ∷ words) None
  not_taken none = record { some = tt; within = tt; none = λ asked h. none (names_so asked h).taken }

  module _ (value : Values) (finds : Finds (app_by v) words value) where
    same_values : value ≡ value_given (app_by v) words
    same_values = λ i id. finds.same id i

    told_asks : (asked : Asked) → verb_for asked ≡ v → Shows value asked → Asks (verb_name v ∷ words) asked
    told_asks asked e shows =
        let here : Shows (value_given (app_by v) words) asked = subst (λ (f : Values). Shows f asked) same_values shows in
        let names : NamesOf words asked = subst (λ (w : Verb). Names (app_by w) Shows words asked) (sym e) (record { taken = finds.taken; shows = here }) in
        subst (λ (w : Verb). Asks (verb_name w ∷ words) asked) e (asks words asked names)

    -- .. and that it takes
    pub told : (task : Option Task) → Tells v value task → Answers (verb_name v ∷ words) task
    told None h = record {
      some = tt;
      within = tt;
      none = λ asked k. h.none asked (asked_so asked k) (subst (λ (f : Values). Shows f asked) (sym same_values) (names_so asked k).shows);
    }
    told (Some task) h = record { some = told_asks (asked_by task) h.some.0 h.some.1; within = h.within; none = tt }

-- ---- by the command that was made

module _ (v : Verb) (words : List Text) (app : App) (is : app ≡ app_by v) (found : Option ArgMatches) where
  pub told_by : (m : ArgMatches) → found ≡ Some m → IfSome found (λ k. Finds app words (values_of k)) → (task : Option Task) → Tells v (values_of m) task →
      Answers (verb_name v ∷ words) task
  told_by m at finds task tells =
      let here : Finds app words (values_of m) = subst (λ (o : Option ArgMatches). IfSome o (λ k. Finds app words (values_of k))) at finds in
      told v words (values_of m) (subst (λ (a : App). Finds a words (values_of m)) is here) task tells

  pub untold_by : found ≡ None → IfNone found (¬ CommandTakes app words) → Answers (verb_name v ∷ words) None
  untold_by at none =
      let here : ¬ CommandTakes app words = subst (λ (o : Option ArgMatches). IfNone o (¬ CommandTakes app words)) at none in
      not_taken v words (subst (λ (a : App). ¬ CommandTakes a words) is here)

-- ---- by the first word

abbrev texts : List (String Global) → List Text
texts = map string_bytes

module _ (words rest : List (String Global)) (first : String Global) (at : words ≡ first ∷ rest) (word : Text) (spelled : word ≡ string_bytes first) where
  words_at : texts words ≡ word ∷ texts rest
  words_at = ap texts at ∙ ap (λ x. x ∷ texts rest) (sym spelled)

  pub unknown_word : ((v : Verb) → word ≡ verb_name v → ⊥) → AsksNothing (texts words)
  unknown_word none = subst AsksNothing (sym words_at) (none_unknown word (texts rest) none)
