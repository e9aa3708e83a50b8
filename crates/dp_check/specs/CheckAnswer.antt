-- What is answered for a tree.
use Rattle.std.specs.Prelude.{List, ◌++◌, length, Option, Some, None, Result, Ok, nat_lt, if◌then◌else◌}
use Rattle.dp_base.specs.declared.Quantity.TheVariants.{Functions, Cells}
use Rattle.dp_base.specs.declared.limits.TheConstants.{CELLS, FUNCTIONS}
use Rattle.dp_base.specs.Counts.{reported_count}
use Rattle.dp_tree.specs.declared.Function.{Function}
use Rattle.dp_tree.specs.declared.Program.{Program}
use Rattle.dp_tree.specs.declared.Stmt.{Stmt}
use Rattle.dp_tree.specs.declared.raw.RawProgram.{RawProgram}
use Rattle.dp_check.specs.declared.fail.CheckFail.{CheckFail}
use Rattle.dp_check.specs.declared.fail.CheckFail.TheVariants.{Limit}
use Rattle.dp_check.specs.declared.items.Head.{Head}
use Rattle.dp_check.specs.declared.place.Place.{Place}
use Rattle.dp_check.specs.Names.{predeclared}
use Rattle.dp_check.specs.Offence.{Token, first_offence}
use Rattle.dp_check.specs.Place.{parts_all, place_passed}
use Rattle.dp_check.specs.Tokens.{tokens_all}
use Rattle.dp_check.specs.Resolved.{resolved_main}
use Rattle.dp_check.specs.Answer.{unless, answer}
use Rattle.dp_check.specs.Items.{items_tokens, items_functions, after_items}
use Rattle.dp_check.specs.Tables.{globals, variables, program_sites, regions_from}
use Rattle.dp_check.specs.Limits.{function_count, global_cells}

-- the begin of `main`, whose variables come after the file-scope ones; its sites come first
abbrev pub main_numbers : RawProgram → Place
main_numbers raw = record { names = predeclared; variable = length (globals raw.items); site = 1 }

-- the begin of the text: the numbers of the functions come after those of `main`
abbrev pub text_begin : RawProgram → Head
text_begin raw = record { place = place_passed (main_numbers raw) (parts_all raw.main); globals = 0; functions = 0 }

-- the begin of `main`, where the names of all items are visible
abbrev pub main_begin : RawProgram → Place
main_begin raw = record (main_numbers raw) { names = (after_items (text_begin raw) raw.items).place.names }

-- the names of a text in their order, each with the names that are visible there
abbrev pub names_of : RawProgram → List Token
names_of raw = items_tokens (text_begin raw) raw.items ++ tokens_all (main_begin raw) raw.main

-- the program that a lawful tree stands for
abbrev pub resolved : RawProgram → Program
resolved raw = record {
  vars = variables raw;
  sites = program_sites raw;
  regions = regions_from 1 raw.main;
  functions = items_functions (text_begin raw) raw.items;
  main = resolved_main (main_begin raw) 1 raw.main;
}

-- more functions besides `main` than a program may have
abbrev pub too_many_functions : RawProgram → Option CheckFail
too_many_functions raw = if nat_lt FUNCTIONS (function_count raw.items) then Some (Limit Functions (reported_count (function_count raw.items))) else None

-- more cells of file-scope variables than a program may have
abbrev pub too_many_cells : RawProgram → Option CheckFail
too_many_cells raw = if nat_lt CELLS (global_cells raw.items) then Some (Limit Cells (reported_count (global_cells raw.items))) else None

-- the functions and `main`, unless a name offends
unfoldable pub trees_answer : RawProgram → Result (List Function × List Stmt) CheckFail
trees_answer raw = answer (first_offence (names_of raw)) (items_functions (text_begin raw) raw.items, resolved_main (main_begin raw) 1 raw.main)

-- the first offence, or else the first count above its limit, or else the program
unfoldable pub check_answer : RawProgram → Result Program CheckFail
check_answer raw =
    unless (first_offence (names_of raw)) (unless (too_many_functions raw) (unless (too_many_cells raw) (Ok (resolved raw))))
