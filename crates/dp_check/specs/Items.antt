-- The items of a text: file-scope variables and functions.
use Rattle.std.specs.Prelude.{◌+◌, List, [], ◌∷◌, ◌++◌, length, Result}
use Rattle.dp_tree.specs.declared.Function.{Function as Callee}
use Rattle.dp_tree.specs.declared.raw.Name.{Name}
use Rattle.dp_tree.specs.declared.raw.RawStmt.{RawStmt}
use Rattle.dp_tree.specs.declared.raw.RawItem.{RawItem}
use Rattle.dp_tree.specs.declared.raw.RawItem.TheVariants.{Scalar, Array, Function}
use Rattle.dp_check.specs.declared.items.Head.{Head}
use Rattle.dp_check.specs.declared.names.Meaning.TheVariants as means
use Rattle.dp_check.specs.Offence.{Token, Declares, first_offence}
use Rattle.dp_check.specs.Place.{place_passed, with_name, after_params}
use Rattle.dp_check.specs.Tokens.{token, tokens_all, params_tokens}
use Rattle.dp_check.specs.Resolved.{resolved_all, param_variables}
use Rattle.dp_check.specs.Answer.{answer}
use Rattle.dp_check.specs.Tables.{function_parts}
use Rattle.dp_check.specs.declared.fail.CheckFail.{CheckFail}

-- the place after a file-scope variable, which has the next number among these
abbrev pub with_global : Head → Name → Head
with_global h name = record h { globals = h.globals + 1; place = with_name h.place name (means.Scalar (record { 0 = h.globals })) }

-- the same after a file-scope array
abbrev pub with_array : Head → Name → Head
with_array h name = record h { globals = h.globals + 1; place = with_name h.place name (means.Array (record { 0 = h.globals })) }

-- a function's name is visible from its end on
abbrev pub with_function : Head → Name → List Name → List RawStmt → Head
with_function h name params body = record h {
  functions = h.functions + 1;
  place = with_name (place_passed h.place (function_parts params body)) name (means.Function h.functions (length params));
}

-- the place after an item
abbrev pub after_item : Head → RawItem → Head
after_item h (Scalar name start) = with_global h name
after_item h (Array name size) = with_array h name
after_item h (Function name params body) = with_function h name params body

-- the place after items
abbrev pub after_items : Head → List RawItem → Head
after_items h [] = h
after_items h (item ∷ rest) = after_items (after_item h item) rest

-- the names of an item, each with the names that are visible there
abbrev pub item_tokens : Head → RawItem → List Token
item_tokens h (Scalar name start) = token h.place.names Declares name ∷ []
item_tokens h (Array name size) = token h.place.names Declares name ∷ []
item_tokens h (Function name params body) =
    token h.place.names Declares name ∷ (params_tokens h.place params ++ tokens_all (after_params h.place params) body)

-- the same of items
abbrev pub items_tokens : Head → List RawItem → List Token
items_tokens h [] = []
items_tokens h (item ∷ rest) = item_tokens h item ++ items_tokens (after_item h item) rest

-- the functions that an item declares
abbrev pub item_functions : Head → RawItem → List Callee
item_functions h (Scalar name start) = []
item_functions h (Array name size) = []
item_functions h (Function name params body) =
    record { params = param_variables h.place params; body = resolved_all (after_params h.place params) body } ∷ []

-- the functions that items declare
abbrev pub items_functions : Head → List RawItem → List Callee
items_functions h [] = []
items_functions h (item ∷ rest) = item_functions h item ++ items_functions (after_item h item) rest

-- what is answered for a function with its name
unfoldable pub function_answer : Head → Name → List Name → List RawStmt → Result Callee CheckFail
function_answer h name params body =
    answer (first_offence (item_tokens h (Function name params body)))
    (record { params = param_variables h.place params; body = resolved_all (after_params h.place params) body })

-- what is answered for items
unfoldable pub items_answer : Head → List RawItem → Result (List Callee) CheckFail
items_answer h all = answer (first_offence (items_tokens h all)) (items_functions h all)
