-- What the command of each verb takes.
use Rattle.std.specs.Prelude.{◌≡◌, ℕ, true, List, [], Option, Some, codes}
use Rattle.clap.specs.declared.builder.action.ArgAction.TheVariants.{Set, SetTrue}
use Rattle.clap.specs.declared.builder.value_parser.ValueParser.TheVariants as parser
use Rattle.clap.specs.Words.{App, Rule, Text, first_of, fault_of, matches_of, new_app, new_rule, with_rule}
use Rattle.dp_base.specs.declared.limits.TheConstants.{FUEL, INPUT_WORDS, LANE, RATE, SEED, STAGES, WORKERS}
use Rattle.dp_words.specs.declared.task.TheConstants.{REGION}

-- a name that has to be given, and one that may be
abbrev pub name_rule : Text → Rule
name_rule id = record (new_rule id) { action = Some Set; required = true }

abbrev pub further_name : Text → Rule
further_name id = record (new_rule id) { action = Some Set }

-- .. of a number in this range, that has to be given
abbrev pub number_name : Text → ℕ → ℕ → Rule
number_name id low high = record (name_rule id) { parser = Some (parser.Unsigned low high) }

-- an option with a file's name, an option with a number in this range, and one that stands alone
abbrev pub file_option : Text → Rule
file_option id = record (new_rule id) { long = Some id; action = Some Set }

abbrev pub number_option : Text → ℕ → ℕ → Rule
number_option id low high = record (new_rule id) { long = Some id; action = Some Set; parser = Some (parser.Unsigned low high) }

abbrev pub flag : Text → Rule
flag id = record (new_rule id) { long = Some id; action = Some SetTrue }

-- an option with a number in this range, that has to be given
abbrev pub needed_number : Text → ℕ → ℕ → Rule
needed_number id low high = record (number_option id low high) { required = true }

-- a command that reads the words behind its verb
abbrev pub verb_app : Text → App
verb_app verb = record (new_app verb) { top = record (new_app verb).top { no_binary_name = true } }

-- the options of a crew's size
abbrev pub workers_option : Rule
workers_option = number_option (codes "workers") 1 WORKERS

abbrev pub lane_option : Rule
lane_option = number_option (codes "lane") 1 LANE

-- the greatest number of steps
abbrev pub fuel_option : Rule
fuel_option = number_option (codes "fuel") 0 FUEL

-- a command with the options of automatic plans
abbrev pub with_plan_options : App → App
with_plan_options app = with_rule (with_rule (with_rule (with_rule app (file_option (codes "profile"))) (number_option (codes "rate") 0 RATE))
    (number_option (codes "stages") 1 STAGES)) workers_option

-- .. and with those of a run, but for its fuel
abbrev pub with_run_options : App → App
with_run_options app = with_rule (with_plan_options (with_rule app (file_option (codes "plan")))) lane_option

-- a command that has to be given a program, one that may be given an input, and one that has to be given a further text
abbrev pub of_program : Text → App
of_program verb = with_rule (verb_app verb) (name_rule (codes "program"))

abbrev pub with_input : App → App
with_input app = with_rule app (further_name (codes "input"))

abbrev pub with_text : App → Text → App
with_text app id = with_rule app (name_rule id)

abbrev pub run_app : App
run_app = with_rule (with_rule (with_run_options (with_input (of_program (codes "run")))) fuel_option) (flag (codes "why"))

abbrev pub plan_app : App
plan_app = with_plan_options (of_program (codes "plan"))

abbrev pub explain_app : App
explain_app = with_plan_options (of_program (codes "explain"))

abbrev pub check_app : App
check_app = of_program (codes "check")

abbrev pub tree_app : App
tree_app = of_program (codes "tree")

abbrev pub profile_app : App
profile_app = with_rule (with_input (of_program (codes "profile"))) fuel_option

abbrev pub log_app : App
log_app = with_rule (with_run_options (with_input (of_program (codes "log")))) fuel_option

abbrev pub audit_app : App
audit_app = with_rule (with_run_options (with_input (with_text (of_program (codes "audit")) (codes "log")))) fuel_option

abbrev pub save_app : App
save_app = with_rule (with_rule (with_rule (with_run_options (with_input (of_program (codes "save")))) fuel_option) (needed_number (codes "region") 1 REGION))
    (needed_number (codes "after") 0 FUEL)

abbrev pub resume_app : App
resume_app = with_run_options (with_input (with_text (of_program (codes "resume")) (codes "checkpoint")))

abbrev pub batch_app : App
batch_app = with_rule (with_run_options (with_text (of_program (codes "batch")) (codes "list"))) fuel_option

abbrev pub gen_app : App
gen_app = with_rule (with_rule (with_rule (with_rule (verb_app (codes "gen")) (number_name (codes "seed") 0 SEED)) (number_name (codes "size") 1 INPUT_WORDS))
    workers_option) lane_option

-- the command takes the words
abbrev pub CommandTakes : App → List Text → Type 0
CommandTakes app words = fault_of app words ≡ []

-- the value that the words give to a name or an option of the command, if they do
abbrev pub value_given : App → List Text → Text → Option Text
value_given app words id = first_of id (matches_of app words)
