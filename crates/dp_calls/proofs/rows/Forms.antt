-- Every form of an expression and a statement in a call's body, and trees that no accepted text has.
use Rattle.std.proofs.Common.{◌≡◌, refl, List, [], ◌∷◌, pos}
use Rattle.dp_base.specs.declared.End.TheVariants.{Done}
use Rattle.dp_base.specs.declared.BinOp.TheVariants as op
use Rattle.dp_base.specs.declared.UnOp.TheVariants as sign
use Rattle.dp_tree.specs.declared.Expr.TheVariants as tree
use Rattle.dp_tree.specs.declared.Stmt.TheVariants as stmt
use Rattle.dp_tree.specs.declared.VarScope.TheVariants.{Global, Outer, Body}
use Rattle.dp_tree.specs.declared.SiteKind.TheVariants.{Assign, Print, If, While}
use Rattle.dp_tree.specs.declared.Program.{Program}
use Rattle.dp_calls.specs.Expand.{expand}
use Rattle.dp_calls.specs.Frames.{outcome}
use Rattle.dp_calls.specs.Renaming.{Renamed, renamed}
use Rattle.dp_tree.proofs.Build.{num, var, at, bin, set, set_at, say, loop, region, call, scalar, array, site, one_region, function, program, with_functions}
use Rattle.dp_tree.proofs.Build.{tree_opened}
use Rattle.dp_tree.proofs.Programs.{add}

-- the first entry of a variable counts, and a variable without one keeps its number
abbrev names : List Renamed
names = record { source = 3; target = 8 } ∷ record { source = 4; target = 9 } ∷ record { source = 3; target = 5 } ∷ []

each_expression : renamed names (tree.Or (tree.And (tree.Input (var 3)) (at 3 (var 4)))
    (bin op.Lt (tree.Unary sign.Not (var 3)) (bin op.Sub (var 4) (bin op.Mul (var 7) (tree.And tree.InputLen (num 3))))))
    ≡ tree.Or (tree.And (tree.Input (var 8)) (at 8 (var 9)))
    (bin op.Lt (tree.Unary sign.Not (var 8)) (bin op.Sub (var 9) (bin op.Mul (var 7) (tree.And tree.InputLen (num 3)))))
unfolding tree_opened
each_expression = refl

-- int g; int a[3]; void f(int p) { a[p] = p + 1; while (p < g) { p = p - 1; } if (p) { print(p); } else { g = p; } }
-- int main() { f(5); }, with the call on line 9 and a local of `main` that nothing assigns
abbrev calling_all : Program
calling_all = with_functions
    (function (3 ∷ []) (set_at 1 1 (var 3) (add (var 3) (num 1)) ∷ loop 2 (bin op.Lt (var 3) (var 0)) (set 3 3 (bin op.Sub (var 3) (num 1)) ∷ [])
    ∷ stmt.If (record { 0 = 4 }) (var 3) (say 5 (var 3) ∷ []) (set 6 0 (var 3) ∷ []) ∷ []) ∷ [])
    (program (scalar 0 (pos 0) Global ∷ array 1 3 ∷ scalar 4 (pos 0) Outer ∷ scalar 5 (pos 0) Outer ∷ [])
    (site 1 Assign 0 ∷ site 1 While 0 ∷ site 1 Assign 0 ∷ site 1 If 0 ∷ site 1 Print 0 ∷ site 1 Assign 0 ∷ []) [] (call 0 9 (num 5 ∷ []) ∷ []))

each_statement : (expand calling_all).main
    ≡ set 1 2 (num 5) ∷ set_at 2 1 (var 2) (add (var 2) (num 1)) ∷ loop 3 (bin op.Lt (var 2) (var 0)) (set 4 2 (bin op.Sub (var 2) (num 1)) ∷ [])
    ∷ stmt.If (record { 0 = 5 }) (var 2) (say 6 (var 2) ∷ []) (set 7 0 (var 2) ∷ []) ∷ []
unfolding tree_opened
each_statement = refl

-- void f() { s = s; } int main() { x = 5; f(); while (s < 2) { s = s + 1 + x; x = 5; } }, where x is a body local: it is 0 in
-- each iteration, also in the first one behind a call
abbrev reading_early : Program
reading_early = with_functions (function [] (set 5 0 (var 0) ∷ []) ∷ [])
    (program (scalar 0 (pos 0) Global ∷ scalar 1 (pos 0) (Body 1) ∷ []) (site 1 Assign 0 ∷ site 1 While 1 ∷ site 1 Assign 1 ∷ site 1 Assign 1 ∷ site 1 Assign 0
    ∷ []) (one_region 1 2 4)
    (set 1 1 (num 5) ∷ call 0 1 [] ∷ region 1 2 (bin op.Lt (var 0) (num 2)) (set 3 0 (add (add (var 0) (num 1)) (var 1)) ∷ set 4 1 (num 5) ∷ []) ∷ []))

reads_zero : outcome reading_early [] 100 ≡ record { prints = []; globals = pos 2 ∷ []; steps = 9; end = Done }
unfolding tree_opened
reads_zero = refl

-- void f(int a, int b) { } void h(int c) { g = a + c; } int main() { f(7, 8); h(1); }: a call has none of another call's values
abbrev reading_another : Program
reading_another = with_functions (function (1 ∷ 2 ∷ []) [] ∷ function (3 ∷ []) (set 1 0 (add (var 1) (var 3)) ∷ []) ∷ [])
    (program (scalar 0 (pos 0) Global ∷ scalar 1 (pos 0) Outer ∷ scalar 2 (pos 0) Outer ∷ scalar 3 (pos 0) Outer ∷ []) (site 1 Assign 0 ∷ []) []
    (call 0 1 (num 7 ∷ num 8 ∷ []) ∷ call 1 1 (num 1 ∷ []) ∷ []))

reads_none_of_it : outcome reading_another [] 100 ≡ record { prints = []; globals = pos 1 ∷ []; steps = 4; end = Done }
unfolding tree_opened
reads_none_of_it = refl

-- if (g) { x = 1; } else { x = 2; } x = 3;, where the first assignment in text order declares x
abbrev assigning_twice : Program
assigning_twice = program (scalar 0 (pos 0) Global ∷ scalar 1 (pos 0) Outer ∷ []) (site 1 If 0 ∷ site 1 Assign 0 ∷ site 1 Assign 0 ∷ site 1 Assign 0 ∷ []) []
    (stmt.If (record { 0 = 1 }) (var 0) (set 2 1 (num 1) ∷ []) (set 3 1 (num 2) ∷ []) ∷ set 4 1 (num 3) ∷ [])

declared_once : (expand assigning_twice).vars ≡ scalar 0 (pos 0) Global ∷ scalar 1 (pos 0) Outer ∷ []
unfolding tree_opened
declared_once = refl
