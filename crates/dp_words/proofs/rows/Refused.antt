-- Lists of words that a command doesn't take, and the kind of fault.
use Rattle.std.proofs.Common.{◌≡◌, refl, List, [], ◌∷◌, codes}
use Rattle.clap.specs.Words.{Text, fault_of}
use Rattle.clap.specs.declared.error.kind.ErrorKind.TheVariants as kind
use Rattle.clap.proofs.OnLiterals.{clap_on_literals}
use Rattle.dp_words.specs.Commands.{audit_app, batch_app, check_app, explain_app, gen_app, log_app, plan_app, profile_app, resume_app, run_app, save_app}
use Rattle.dp_words.specs.Commands.{tree_app}

abbrev option_of : Text → Text → List Text
option_of name value = codes "p" ∷ name ∷ value ∷ []

no_program : fault_of run_app [] ≡ kind.MissingRequiredArgument ∷ []
unfolding clap_on_literals
no_program = refl

third_name : fault_of run_app (codes "p" ∷ codes "i" ∷ codes "j" ∷ []) ≡ kind.UnknownArgument ∷ []
unfolding clap_on_literals
third_name = refl

unknown_option : fault_of run_app (option_of (codes "--works") (codes "1")) ≡ kind.UnknownArgument ∷ []
unfolding clap_on_literals
unknown_option = refl

asks_for_help : fault_of run_app (codes "p" ∷ codes "--help" ∷ []) ≡ kind.DisplayHelp ∷ []
unfolding clap_on_literals
asks_for_help = refl

nine_workers : fault_of run_app (option_of (codes "--workers") (codes "9")) ≡ kind.ValueValidation ∷ []
unfolding clap_on_literals
nine_workers = refl

no_workers : fault_of run_app (option_of (codes "--workers") (codes "0")) ≡ kind.ValueValidation ∷ []
unfolding clap_on_literals
no_workers = refl

no_places : fault_of run_app (option_of (codes "--lane") (codes "0")) ≡ kind.ValueValidation ∷ []
unfolding clap_on_literals
no_places = refl

too_many_places : fault_of run_app (option_of (codes "--lane") (codes "65")) ≡ kind.ValueValidation ∷ []
unfolding clap_on_literals
too_many_places = refl

too_much_fuel : fault_of run_app (option_of (codes "--fuel") (codes "1000000001")) ≡ kind.ValueValidation ∷ []
unfolding clap_on_literals
too_much_fuel = refl

no_stage : fault_of run_app (option_of (codes "--stages") (codes "0")) ≡ kind.ValueValidation ∷ []
unfolding clap_on_literals
no_stage = refl

nine_stages : fault_of plan_app (option_of (codes "--stages") (codes "9")) ≡ kind.ValueValidation ∷ []
unfolding clap_on_literals
nine_stages = refl

large_rate : fault_of run_app (option_of (codes "--rate") (codes "1001")) ≡ kind.ValueValidation ∷ []
unfolding clap_on_literals
large_rate = refl

planned_with_input : fault_of plan_app (codes "p" ∷ codes "i" ∷ []) ≡ kind.UnknownArgument ∷ []
unfolding clap_on_literals
planned_with_input = refl

explained_by_plans : fault_of explain_app (option_of (codes "--plan") (codes "f")) ≡ kind.UnknownArgument ∷ []
unfolding clap_on_literals
explained_by_plans = refl

tree_of_none : fault_of tree_app [] ≡ kind.MissingRequiredArgument ∷ []
unfolding clap_on_literals
tree_of_none = refl

no_number : fault_of run_app (option_of (codes "--fuel") (codes "1e3")) ≡ kind.ValueValidation ∷ []
unfolding clap_on_literals
no_number = refl

repeated : fault_of run_app (codes "p" ∷ codes "--lane" ∷ codes "1" ∷ codes "--lane" ∷ codes "1" ∷ []) ≡ kind.ArgumentConflict ∷ []
unfolding clap_on_literals
repeated = refl

repeated_flag : fault_of run_app (codes "p" ∷ codes "--why" ∷ codes "--why" ∷ []) ≡ kind.ArgumentConflict ∷ []
unfolding clap_on_literals
repeated_flag = refl

no_value : fault_of run_app (codes "p" ∷ codes "--plan" ∷ []) ≡ kind.InvalidValue ∷ []
unfolding clap_on_literals
no_value = refl

second_program : fault_of check_app (codes "p" ∷ codes "q" ∷ []) ≡ kind.UnknownArgument ∷ []
unfolding clap_on_literals
second_program = refl

checked_with_option : fault_of check_app (codes "p" ∷ codes "--why" ∷ []) ≡ kind.UnknownArgument ∷ []
unfolding clap_on_literals
checked_with_option = refl

profile_of_none : fault_of profile_app [] ≡ kind.MissingRequiredArgument ∷ []
unfolding clap_on_literals
profile_of_none = refl

profile_with_too_much_fuel : fault_of profile_app (option_of (codes "--fuel") (codes "1000000001")) ≡ kind.ValueValidation ∷ []
unfolding clap_on_literals
profile_with_too_much_fuel = refl

profile_with_rate : fault_of profile_app (option_of (codes "--rate") (codes "1")) ≡ kind.UnknownArgument ∷ []
unfolding clap_on_literals
profile_with_rate = refl

no_size : fault_of gen_app (codes "1" ∷ []) ≡ kind.MissingRequiredArgument ∷ []
unfolding clap_on_literals
no_size = refl

no_words : fault_of gen_app (codes "1" ∷ codes "0" ∷ []) ≡ kind.ValueValidation ∷ []
unfolding clap_on_literals
no_words = refl

too_many_words : fault_of gen_app (codes "1" ∷ codes "65537" ∷ []) ≡ kind.ValueValidation ∷ []
unfolding clap_on_literals
too_many_words = refl

large_seed : fault_of gen_app (codes "2147483648" ∷ codes "1" ∷ []) ≡ kind.ValueValidation ∷ []
unfolding clap_on_literals
large_seed = refl

made_with_stages : fault_of gen_app (codes "1" ∷ codes "1" ∷ codes "--stages" ∷ codes "1" ∷ []) ≡ kind.UnknownArgument ∷ []
unfolding clap_on_literals
made_with_stages = refl

logged_with_why : fault_of log_app (codes "p" ∷ codes "--why" ∷ []) ≡ kind.UnknownArgument ∷ []
unfolding clap_on_literals
logged_with_why = refl

audit_of_no_log : fault_of audit_app (codes "p" ∷ []) ≡ kind.MissingRequiredArgument ∷ []
unfolding clap_on_literals
audit_of_no_log = refl

audit_of_two_inputs : fault_of audit_app (codes "p" ∷ codes "l" ∷ codes "i" ∷ codes "j" ∷ []) ≡ kind.UnknownArgument ∷ []
unfolding clap_on_literals
audit_of_two_inputs = refl

saved_in_no_region : fault_of save_app (codes "p" ∷ codes "--after" ∷ codes "1" ∷ []) ≡ kind.MissingRequiredArgument ∷ []
unfolding clap_on_literals
saved_in_no_region = refl

saved_after_nothing : fault_of save_app (codes "p" ∷ codes "--region" ∷ codes "1" ∷ []) ≡ kind.MissingRequiredArgument ∷ []
unfolding clap_on_literals
saved_after_nothing = refl

region_zero : fault_of save_app (codes "p" ∷ codes "--after" ∷ codes "1" ∷ codes "--region" ∷ codes "0" ∷ []) ≡ kind.ValueValidation ∷ []
unfolding clap_on_literals
region_zero = refl

large_region : fault_of save_app (codes "p" ∷ codes "--after" ∷ codes "1" ∷ codes "--region" ∷ codes "4294967296" ∷ []) ≡ kind.ValueValidation ∷ []
unfolding clap_on_literals
large_region = refl

large_after : fault_of save_app (codes "p" ∷ codes "--region" ∷ codes "1" ∷ codes "--after" ∷ codes "1000000001" ∷ []) ≡ kind.ValueValidation ∷ []
unfolding clap_on_literals
large_after = refl

saved_with_why : fault_of save_app (codes "p" ∷ codes "--region" ∷ codes "1" ∷ codes "--after" ∷ codes "1" ∷ codes "--why" ∷ []) ≡ kind.UnknownArgument ∷ []
unfolding clap_on_literals
saved_with_why = refl

run_to_a_region : fault_of run_app (option_of (codes "--region") (codes "1")) ≡ kind.UnknownArgument ∷ []
unfolding clap_on_literals
run_to_a_region = refl

resumed_with_fuel : fault_of resume_app (codes "p" ∷ codes "c" ∷ codes "--fuel" ∷ codes "1" ∷ []) ≡ kind.UnknownArgument ∷ []
unfolding clap_on_literals
resumed_with_fuel = refl

resumed_from_nothing : fault_of resume_app (codes "p" ∷ []) ≡ kind.MissingRequiredArgument ∷ []
unfolding clap_on_literals
resumed_from_nothing = refl

batch_of_no_list : fault_of batch_app (codes "p" ∷ []) ≡ kind.MissingRequiredArgument ∷ []
unfolding clap_on_literals
batch_of_no_list = refl

batch_with_input : fault_of batch_app (codes "p" ∷ codes "l" ∷ codes "i" ∷ []) ≡ kind.UnknownArgument ∷ []
unfolding clap_on_literals
batch_with_input = refl
