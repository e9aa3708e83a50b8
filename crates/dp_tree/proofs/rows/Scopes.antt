-- What checked and inlined programs have, and texts whose names aren't in scope.
use Rattle.std.proofs.Common.{◌≡◌, refl, true, false, [], ◌∷◌, pos, List, arith}
use Rattle.dp_tree.specs.declared.VarScope.TheVariants.{Global, Outer, Body}
use Rattle.dp_tree.specs.declared.Function.{Function}
use Rattle.dp_tree.specs.declared.Program.{Program}
use Rattle.dp_tree.specs.declared.Stmt.{Stmt}
use Rattle.dp_tree.specs.Scoping.{is_scoped}
use Rattle.dp_tree.specs.Checked.{IsChecked}
use Rattle.dp_tree.specs.Inlined.{IsInlined}
use Rattle.dp_tree.proofs.Build.{num, var, set, say, loop, region, call, scalar, function, program, with_functions, tree_opened}
use Rattle.dp_tree.proofs.Programs.{word_table, word_table_expanded}

table_is_checked : IsChecked word_table
unfolding tree_opened
table_is_checked = record { globals = refl; cells = refl; sites = refl; roles = refl; regions = refl; functions = refl; scoped = refl }

pub expanded_table_is_inlined : IsInlined word_table_expanded
unfolding tree_opened
expanded_table_is_inlined =
    record {
      globals = refl;
      cells = refl;
      named = refl;
      functions = refl;
      calls = refl;
      sites = refl;
      roles = refl;
      regions = refl;
      table = refl;
      few = omega arith;
      few_each = refl;
    }

-- variable 0 is a file-scope one, the others are locals
abbrev naming : List Function → List Stmt → Program
naming functions main = with_functions functions (program (scalar 0 (pos 0) Global ∷ scalar 1 (pos 0) Outer ∷ scalar 2 (pos 0) Outer ∷ []) [] [] main)

declared_before_use : is_scoped (naming [] (set 1 1 (var 0) ∷ set 2 0 (var 1) ∷ [])) ≡ true
unfolding tree_opened
declared_before_use = refl

used_before_its_declaration : is_scoped (naming [] (set 1 0 (var 1) ∷ set 2 1 (num 1) ∷ [])) ≡ false
unfolding tree_opened
used_before_its_declaration = refl

used_in_its_own_initialiser : is_scoped (naming [] (set 1 1 (var 1) ∷ [])) ≡ false
unfolding tree_opened
used_in_its_own_initialiser = refl

used_behind_its_block : is_scoped (naming [] (loop 1 (var 0) (set 2 1 (num 1) ∷ []) ∷ say 3 (var 1) ∷ [])) ≡ false
unfolding tree_opened
used_behind_its_block = refl

calls_an_earlier_function : is_scoped (naming (function (1 ∷ []) (say 1 (var 1) ∷ []) ∷ function [] (call 0 1 (num 1 ∷ []) ∷ []) ∷ [])
    (call 1 1 [] ∷ [])) ≡ true
unfolding tree_opened
calls_an_earlier_function = refl

calls_itself : is_scoped (naming (function [] (call 0 1 [] ∷ []) ∷ []) []) ≡ false
unfolding tree_opened
calls_itself = refl

calls_with_too_few_arguments : is_scoped (naming (function (1 ∷ []) [] ∷ []) (call 0 1 [] ∷ [])) ≡ false
unfolding tree_opened
calls_with_too_few_arguments = refl

calls_with_too_many_arguments : is_scoped (naming (function (1 ∷ []) [] ∷ []) (call 0 1 (num 1 ∷ num 2 ∷ []) ∷ [])) ≡ false
unfolding tree_opened
calls_with_too_many_arguments = refl

names_a_local_of_its_caller : is_scoped (naming (function [] (say 2 (var 2) ∷ []) ∷ []) (set 1 2 (num 1) ∷ call 0 1 [] ∷ [])) ≡ false
unfolding tree_opened
names_a_local_of_its_caller = refl

calls_itself_behind_another : is_scoped (naming (function [] [] ∷ function [] (call 1 1 [] ∷ []) ∷ []) []) ≡ false
unfolding tree_opened
calls_itself_behind_another = refl

calls_no_function : is_scoped (naming [] (call 0 1 [] ∷ [])) ≡ false
unfolding tree_opened
calls_no_function = refl

names_no_variable : is_scoped (naming [] (set 1 3 (num 1) ∷ [])) ≡ false
unfolding tree_opened
names_no_variable = refl

has_a_parameter_twice : is_scoped (naming (function (1 ∷ 1 ∷ []) [] ∷ []) []) ≡ false
unfolding tree_opened
has_a_parameter_twice = refl

has_a_global_as_parameter : is_scoped (naming (function (0 ∷ []) [] ∷ []) []) ≡ false
unfolding tree_opened
has_a_global_as_parameter = refl

-- variable 0 is a body local of region 2
abbrev naming_a_body_local : List Stmt → Program
naming_a_body_local main = program (scalar 0 (pos 0) (Body 2) ∷ []) [] [] main

declared_in_its_region : is_scoped (naming_a_body_local (region 2 1 (num 1) (set 2 0 (num 1) ∷ say 3 (var 0) ∷ []) ∷ [])) ≡ true
unfolding tree_opened
declared_in_its_region = refl

declared_in_another_region : is_scoped (naming_a_body_local (region 1 1 (num 1) (set 2 0 (num 1) ∷ say 3 (var 0) ∷ []) ∷ [])) ≡ false
unfolding tree_opened
declared_in_another_region = refl

declared_outside_its_region : is_scoped (naming_a_body_local (set 1 0 (num 1) ∷ [])) ≡ false
unfolding tree_opened
declared_outside_its_region = refl
