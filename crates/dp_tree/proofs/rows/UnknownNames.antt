-- Each place where a text can name a variable, with one that isn't visible there.
use Rattle.std.proofs.Common.{◌≡◌, refl, ℕ, Bool, true, false, List, [], ◌∷◌, pos, map, replicate}
use Rattle.dp_base.specs.declared.BinOp.TheVariants as op
use Rattle.dp_base.specs.declared.UnOp.TheVariants as sign
use Rattle.dp_tree.specs.declared.Expr.{Expr}
use Rattle.dp_tree.specs.declared.Expr.TheVariants as tree
use Rattle.dp_tree.specs.declared.Stmt.{Stmt}
use Rattle.dp_tree.specs.declared.Stmt.TheVariants as stmt
use Rattle.dp_tree.specs.declared.VarScope.TheVariants.{Global, Outer}
use Rattle.dp_tree.specs.Scoping.{is_scoped}
use Rattle.dp_tree.specs.Inlined.{stmt_within}
use Rattle.dp_tree.proofs.Build.{num, var, at, bin, set, set_at, say, loop, region, call, scalar, function, program, with_functions, tree_opened}

-- the places in expressions, with variable x in each
abbrev expressions : ℕ → List Expr
expressions x =
    var x ∷ at x (num 0) ∷ at 0 (var x) ∷ tree.Input (var x) ∷ tree.Unary sign.Neg (var x) ∷ bin op.Add (var x) (num 0) ∷ bin op.Add (num 0) (var x)
    ∷ tree.And (var x) (num 0) ∷ tree.And (num 0) (var x) ∷ tree.Or (var x) (num 0) ∷ tree.Or (num 0) (var x) ∷ []

-- the places in statements
abbrev statements : ℕ → List Stmt
statements x =
    set 1 0 (var x) ∷ set_at 1 x (num 0) (num 0) ∷ set_at 1 0 (var x) (num 0) ∷ set_at 1 0 (num 0) (var x) ∷ say 1 (var x)
    ∷ stmt.If (record { 0 = 1 }) (var x) [] [] ∷ stmt.If (record { 0 = 1 }) (num 0) (say 2 (var x) ∷ []) [] ∷ stmt.If (record { 0 = 1 }) (num 0) []
    (say 2 (var x) ∷ [])
    ∷ loop 1 (var x) [] ∷ loop 1 (num 0) (say 2 (var x) ∷ []) ∷ region 1 1 (var x) [] ∷ region 1 1 (num 0) (say 2 (var x) ∷ []) ∷ call 0 1 (var x ∷ []) ∷ []

-- variable 0 is a file-scope one, 1 the parameter of the function, and 2 a local that nothing declares
abbrev scoped : Stmt → Bool
scoped s = is_scoped (with_functions (function (1 ∷ []) [] ∷ []) (program (scalar 0 (pos 0) Global ∷ scalar 1 (pos 0) Outer ∷ scalar 2 (pos 0) Outer
    ∷ []) [] [] (s ∷ [])))

visible_in_expressions : map (λ (e : Expr). scoped (say 1 e)) (expressions 0) ≡ replicate 11 true
unfolding tree_opened
visible_in_expressions = refl

unknown_in_expressions : map (λ (e : Expr). scoped (say 1 e)) (expressions 2) ≡ replicate 11 false
unfolding tree_opened
unknown_in_expressions = refl

visible_in_statements : map scoped (statements 0) ≡ replicate 13 true
unfolding tree_opened
visible_in_statements = refl

unknown_in_statements : map scoped (statements 2) ≡ replicate 13 false
unfolding tree_opened
unknown_in_statements = refl

-- and each of them names a variable that stands in a table of three, and not in one of two
within_three : map (stmt_within 3) (statements 2) ≡ replicate 13 true
unfolding tree_opened
within_three = refl

beyond_two_in_expressions : map (λ (e : Expr). stmt_within 2 (say 1 e)) (expressions 2) ≡ replicate 11 false
unfolding tree_opened
beyond_two_in_expressions = refl

beyond_two_in_statements : map (stmt_within 2) (statements 2) ≡ replicate 13 false
unfolding tree_opened
beyond_two_in_statements = refl
