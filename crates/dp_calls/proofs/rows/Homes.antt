-- Where programs store into the locals of their regions' bodies, and whose numbers fit 64 bits.
use Rattle.std.proofs.Common.{◌≡◌, refl, Bool, true, false, List, [], ◌∷◌, map, pos, negsuc}
use Rattle.dp_base.specs.declared.BinOp.TheVariants as op
use Rattle.dp_base.specs.declared.UnOp.TheVariants as sign
use Rattle.dp_tree.specs.declared.Expr.{Expr}
use Rattle.dp_tree.specs.declared.Expr.TheVariants as tree
use Rattle.dp_tree.specs.declared.Stmt.{Stmt}
use Rattle.dp_tree.specs.declared.Stmt.TheVariants as stmt
use Rattle.dp_tree.specs.declared.VarScope.TheVariants.{Global, Outer, Body}
use Rattle.dp_tree.specs.declared.Program.{Program}
use Rattle.dp_calls.specs.AtHome.{stores_at_home, expr_fits, numbers_fit, all_numbers_fit}
use Rattle.dp_tree.proofs.Build.{num, var, at, bin, set, set_at, say, when, loop, region, call, scalar, function, program, with_functions}
use Rattle.dp_tree.proofs.Heads.{opened_statement}
use Rattle.dp_tree.proofs.EvalLemmas.{opened}

-- a file-scope variable, a local of no region, and a local of each of three regions' bodies
abbrev storing : List Stmt → Program
storing main = program (scalar 0 (pos 0) Global ∷ scalar 1 (pos 0) Outer ∷ scalar 2 (pos 0) (Body 1) ∷ scalar 3 (pos 0) (Body 2) ∷ []) [] [] main

-- the first two are stored anywhere, and so is what has no entry
stored_anywhere : stores_at_home (storing (set 1 0 (num 1) ∷ set 2 1 (num 1) ∷ set_at 3 9 (num 0) (num 1)
    ∷ region 1 4 (num 1) (set 5 0 (num 1) ∷ set_at 6 1 (num 0) (num 1) ∷ set 7 9 (num 1) ∷ []) ∷ [])) ≡ true
unfolding opened_statement
stored_anywhere = refl

-- a body's local is stored in its own region, at each depth
stored_at_home : stores_at_home
    (storing (region 1 1 (num 1) (set 2 2 (num 1) ∷ when 3 (num 1) (set_at 4 2 (num 0) (num 1) ∷ []) ∷ loop 5 (num 1) (set 6 2 (num 1) ∷ []) ∷ [])
    ∷ region 2 7 (num 1) (set 8 3 (num 1) ∷ []) ∷ [])) ≡ true
unfolding opened_statement
stored_at_home = refl

-- .. and nowhere else: at the top, also within an `if` or a `while`, and in another region
stored_abroad : map (λ s. stores_at_home (storing (say 1 (num 1) ∷ s ∷ [])))
    (set 1 2 (num 1) ∷ set_at 1 2 (num 0) (num 1) ∷ when 1 (num 1) (set 2 2 (num 1) ∷ []) ∷ loop 1 (num 1) (set 2 2 (num 1) ∷ [])
    ∷ region 2 1 (num 1) (set 2 2 (num 1) ∷ []) ∷ region 2 1 (num 1) (set_at 2 2 (num 0) (num 1) ∷ [])
    ∷ region 1 1 (num 1) (set 2 2 (num 1) ∷ loop 3 (num 1) (set 4 3 (num 1) ∷ []) ∷ [])
    ∷ region 1 1 (num 1) (stmt.If (record { 0 = 2 }) (num 1) (set 3 2 (num 1) ∷ []) (set 4 3 (num 1) ∷ []) ∷ []) ∷ [])
    ≡ false ∷ false ∷ false ∷ false ∷ false ∷ false ∷ false ∷ false ∷ []
unfolding opened_statement
stored_abroad = refl

-- the first number past 64 bits, and those at both ends of them
abbrev past : Expr
past = tree.Number (pos 9223372036854775808)

numbers_at_the_ends : map expr_fits (past ∷ tree.Number (negsuc 9223372036854775808) ∷ tree.Number (pos 9223372036854775807)
    ∷ tree.Number (negsuc 9223372036854775807) ∷ []) ≡ false ∷ false ∷ true ∷ true ∷ []
numbers_at_the_ends = refl

-- a number past them counts in each place of an expression
small_expressions : map expr_fits (tree.Input (num 1) ∷ tree.InputLen ∷ var 9223372036854775808 ∷ at 1 (num 2) ∷ tree.Unary sign.Not (num 1)
    ∷ bin op.Add (num 1) (num 2) ∷ tree.And (num 1) (num 2) ∷ tree.Or (num 1) (num 2) ∷ [])
    ≡ true ∷ true ∷ true ∷ true ∷ true ∷ true ∷ true ∷ true ∷ []
unfolding opened
small_expressions = refl

large_expressions : map expr_fits
    (tree.Input past ∷ at 1 past ∷ tree.Unary sign.Not past ∷ bin op.Add past (num 2) ∷ bin op.Add (num 1) past ∷ tree.And past (num 2) ∷ tree.And (num 1) past
    ∷ tree.Or past (num 2) ∷ tree.Or (num 1) past ∷ [])
    ≡ false ∷ false ∷ false ∷ false ∷ false ∷ false ∷ false ∷ false ∷ false ∷ []
unfolding opened
large_expressions = refl

-- .. and in each place of a statement
abbrev with_one : Stmt → Bool
with_one s = numbers_fit (storing (say 1 (num 1) ∷ s ∷ []))

small_statements : map with_one
    (set 1 0 (num 1) ∷ set_at 1 0 (num 1) (num 2) ∷ when 1 (num 1) [] ∷ loop 1 (num 1) [] ∷ region 1 1 (num 1) [] ∷ stmt.Break (record { 0 = 1 }) (num 1)
    ∷ call 0 1 (num 1 ∷ []) ∷ [])
    ≡ true ∷ true ∷ true ∷ true ∷ true ∷ true ∷ true ∷ []
unfolding opened_statement
small_statements = refl

large_statements : map with_one
    (set 1 0 past ∷ set_at 1 0 past (num 2) ∷ set_at 1 0 (num 1) past ∷ say 1 past ∷ when 1 past [] ∷ loop 1 past [] ∷ region 1 1 past []
    ∷ stmt.Break (record { 0 = 1 }) past
    ∷ call 0 1 (num 1 ∷ past ∷ []) ∷ when 1 (num 1) (say 2 past ∷ []) ∷ stmt.If (record { 0 = 1 }) (num 1) [] (say 2 past ∷ [])
    ∷ loop 1 (num 1) (say 2 past ∷ []) ∷ region 1 1 (num 1) (say 2 past ∷ []) ∷ [])
    ≡ false ∷ false ∷ false ∷ false ∷ false ∷ false ∷ false ∷ false ∷ false ∷ false ∷ false ∷ false ∷ false ∷ []
unfolding opened_statement
large_statements = refl

-- .. of a start value, and of a function's text
abbrev starting : Program
starting = program (scalar 0 (pos 0) Global ∷ scalar 1 (pos 9223372036854775808) Outer ∷ []) [] [] []

large_start : numbers_fit starting ≡ false
large_start = refl

large_starts : all_numbers_fit starting ≡ false
large_starts = refl

large_function : map (λ e. all_numbers_fit (with_functions (function [] [] ∷ function [] (say 1 (num 1) ∷ say 2 e ∷ []) ∷ []) (storing [])))
    (num 1 ∷ past ∷ []) ≡ true ∷ false ∷ []
large_function = refl
