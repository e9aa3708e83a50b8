-- The table of the verbs, with what the command of each takes.
use Rattle.std.specs.Prelude.{◌≡◌, List, [], ◌∷◌, ◌++◌, map, Option, Some, None, if◌then◌else◌}
use Rattle.std.specs.Str.{bytes_eq}
use Rattle.clap.specs.Words.{App, Rule, Text, with_rule}
use Rattle.dp_words.specs.declared.arguments.Argument.{Argument}
use Rattle.dp_words.specs.declared.arguments.Argument.TheVariants as argument
use Rattle.dp_words.specs.declared.verb.Line.{Line}
use Rattle.dp_words.specs.Commands.{file_option, flag, further_name, name_rule, needed_number, number_name, number_option}
use Rattle.dp_words.specs.steps.Verbs.{app_by, verb_name}

-- the rule of a name or of an option
abbrev pub rule_for : Argument → Rule
rule_for (argument.Name id) = name_rule id.now
rule_for (argument.FurtherName id) = further_name id.now
rule_for (argument.NumberName id low high) = number_name id.now low high
rule_for (argument.FileOption id) = file_option id.now
rule_for (argument.NumberOption id low high) = number_option id.now low high
rule_for (argument.NeededNumber id low high) = needed_number id.now low high
rule_for (argument.Flag id) = flag id.now

-- the command with these behind what it takes
abbrev pub with_rules : App → List Rule → App
with_rules app [] = app
with_rules app (rule ∷ rules) = with_rules (with_rule app rule) rules

-- the rules of a line
abbrev pub rules_in : Line → List Rule
rules_in line = map rule_for line.names.now ++ map rule_for line.options.now ++ map rule_for line.further.now

-- the first line with this word, if there is one
abbrev pub line_with : List Line → Text → Option Line
line_with [] text = None
line_with (line ∷ table) text = if bytes_eq line.word.now text then Some line else line_with table text

-- the line tells the word of its verb, and what the verb's command takes
pub record IsTrueLine (line : Line) : Type 0 where
  pub named : line.word.now ≡ verb_name line.verb
  pub rules : rules_in line ≡ (app_by line.verb).top.rules

-- .. each line of a table
abbrev pub AreTrue : List Line → Type 0
AreTrue [] = Unit {0}
AreTrue (line ∷ table) = IsTrueLine line × AreTrue table
