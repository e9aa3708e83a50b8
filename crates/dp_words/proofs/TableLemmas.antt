-- The command of a line of the table.
use Rattle.std.proofs.Common.{◌≡◌, ◌∙◌, ap, refl, sym, List, [], ◌∷◌, ◌++◌, map, append_assoc, append-nil, Result, Ok, Err, IfOk}
use Rattle.clap.specs.Words.{App, Rule, Text, app_of}
use Rattle.clap.specs.declared.builder.command.Command.{Command}
use Rattle.dp_words.specs.Commands.{verb_app}
use Rattle.dp_words.specs.declared.verb.Verb.{Verb}
use Rattle.dp_words.specs.declared.verb.Verb.TheVariants as verb
use Rattle.dp_words.specs.declared.verb.Line.{Line}
use Rattle.dp_words.specs.steps.Table.{IsTrueLine, rule_for, rules_in, with_rules}
use Rattle.dp_words.specs.steps.Verbs.{app_by, verb_name}

abbrev with_own : App → List Rule → App
with_own app rules = record app { top = record app.top { rules = app.top.rules ++ rules } }

rules_behind : (app : App) (rules : List Rule) → with_rules app rules ≡ with_own app rules
rules_behind app [] = ap (λ (rs : List Rule). record app { top = record app.top { rules = rs } }) (sym (append-nil app.top.rules))
rules_behind app (rule ∷ rules) =
    rules_behind (record app { top = record app.top { rules = app.top.rules ++ rule ∷ [] } }) rules
    ∙ ap (λ (rs : List Rule). record app { top = record app.top { rules = rs } }) (append_assoc app.top.rules (rule ∷ []) rules)

-- a verb's command is its word with its rules
rules_alone : (v : Verb) → with_own (verb_app (verb_name v)) (app_by v).top.rules ≡ app_by v
rules_alone verb.Run = refl
rules_alone v = refl

line_app : (line : Line) (names options further : List Rule) (app more made : App) → IsTrueLine line → app ≡ with_rules (verb_app line.word.now) names →
    more ≡ with_rules app options → made ≡ with_rules more further → names ++ options ++ further ≡ rules_in line → made ≡ app_by line.verb
line_app line names options further app more made true_line a b c rules =
    c ∙ ap (λ (x : App). with_rules x further) (b ∙ ap (λ (x : App). with_rules x options) a)
    ∙ rules_behind (with_rules (with_rules (verb_app line.word.now) names) options) further
    ∙ ap (λ (x : App). with_own x further) (rules_behind (with_rules (verb_app line.word.now) names) options
    ∙ ap (λ (x : App). with_own x options) (rules_behind (verb_app line.word.now) names))
    ∙ ap (λ (rs : List Rule). with_own (verb_app line.word.now) rs) (rules ∙ true_line.rules)
    ∙ ap (λ (word : Text). with_own (verb_app word) (app_by line.verb).top.rules) true_line.named
    ∙ rules_alone line.verb

-- .. that is made in three steps
pub command_made : {E : Type 0} (line : Line) → IsTrueLine line → (first second third : Command) → app_of first ≡ verb_app line.word.now →
    app_of second ≡ with_rules (app_of first) (map rule_for line.names.now) → app_of third ≡ with_rules (app_of second) (map rule_for line.options.now) →
    (r : Result Command E) → IfOk r (λ last. app_of last ≡ with_rules (app_of third) (map rule_for line.further.now)) →
    IfOk r (λ last. app_of last ≡ app_by line.verb)
command_made line t first second third a b c (Ok last) d =
    line_app line (map rule_for line.names.now) (map rule_for line.options.now) (map rule_for line.further.now) (app_of second) (app_of third) (app_of last) t
    (b ∙ ap (λ (x : App). with_rules x (map rule_for line.names.now)) a) c d refl
command_made line t first second third a b c (Err e) d = tt
