-- Calls where a careless expansion goes wrong: each outcome is that of the frames and that of the expanded program.
use Rattle.std.proofs.Common.{◌≡◌, refl, ℕ, List, [], ◌∷◌, ℤ, pos}
use Rattle.dp_base.specs.declared.End.{End}
use Rattle.dp_base.specs.declared.End.TheVariants.{Done, Fault, Fuel}
use Rattle.dp_base.specs.declared.FaultKind.TheVariants.{Divide}
use Rattle.dp_base.specs.declared.BinOp.TheVariants as op
use Rattle.dp_tree.specs.declared.Expr.{Expr}
use Rattle.dp_tree.specs.declared.Stmt.TheVariants as stmt
use Rattle.dp_tree.specs.declared.VarScope.TheVariants.{Global, Outer}
use Rattle.dp_tree.specs.declared.SiteKind.TheVariants.{Assign, Print, If, While, Break}
use Rattle.dp_tree.specs.declared.Program.{Program}
use Rattle.dp_tree.specs.Checked.{IsChecked}
use Rattle.dp_tree.specs.Trace.{run_of, begin}
use Rattle.dp_calls.specs.Expand.{expand}
use Rattle.dp_calls.specs.Frames.{CallsOutcome, outcome}
use Rattle.dp_calls.specs.Meaning.{outcome_of_run}
use Rattle.dp_tree.proofs.Build.{num, var, bin, set, say, loop, region, call, scalar, site, one_region, function, program, with_functions, tree_opened}
use Rattle.dp_tree.proofs.Programs.{add}

-- what the expanded program does
abbrev expanded : Program → ℕ → CallsOutcome
expanded p fuel = outcome_of_run (expand p) (run_of (expand p) [] fuel (begin (expand p)))

abbrev does : List ℤ → List ℤ → ℕ → End → CallsOutcome
does printed globals steps end = record { prints = printed; globals = globals; steps = steps; end = end }

-- 1  int g;
-- 2  void f(int a) {
-- 3    int b = 0;
-- 4    b = b + a;
-- 5    g = g + b; }
-- 7    int i = 0;
-- 8    while (i < 2) {
-- 9      i = i + 1;
-- 10     f(i); }
-- The same call runs twice, and its local begins at 0 each time.
abbrev again : Program
again = with_functions (function (2 ∷ []) (set 4 3 (num 0) ∷ set 5 3 (add (var 3) (var 2)) ∷ set 6 0 (add (var 0) (var 3)) ∷ []) ∷ [])
    (program (scalar 0 (pos 0) Global ∷ scalar 1 (pos 0) Outer ∷ scalar 2 (pos 0) Outer ∷ scalar 3 (pos 0) Outer ∷ [])
    (site 7 Assign 0 ∷ site 8 While 0 ∷ site 9 Assign 0 ∷ site 3 Assign 0 ∷ site 4 Assign 0 ∷ site 5 Assign 0 ∷ []) []
    (set 1 1 (num 0) ∷ loop 2 (bin op.Lt (var 1) (num 2)) (set 3 1 (add (var 1) (num 1)) ∷ call 0 10 (var 1 ∷ []) ∷ []) ∷ []))

again_in_frames : outcome again [] 100 ≡ does [] (pos 3 ∷ []) 14 Done
unfolding tree_opened
again_in_frames = refl

again_expanded : expanded again 100 ≡ does [] (pos 3 ∷ []) 14 Done
unfolding tree_opened
again_expanded = refl

-- the second call's local has its first call's value no more: the fuel ends right behind its initialiser
again_at_the_initialiser : outcome again [] 11 ≡ does [] (pos 1 ∷ []) 11 Fuel
unfolding tree_opened
again_at_the_initialiser = refl

-- int g; void f(int a) { g = g * 10 + a; } void h(int a) { f(a + 1); f(a + 2); }
-- int main() { int a = 5; h(a + 1); g = g * 10 + a; }
-- Three variables are named a.
abbrev same_names : Program
same_names = with_functions
    (function (2 ∷ []) (set 3 0 (add (bin op.Mul (var 0) (num 10)) (var 2)) ∷ [])
    ∷ function (3 ∷ []) (call 0 1 (add (var 3) (num 1) ∷ []) ∷ call 0 1 (add (var 3) (num 2) ∷ []) ∷ []) ∷ [])
    (program (scalar 0 (pos 0) Global ∷ scalar 1 (pos 0) Outer ∷ scalar 2 (pos 0) Outer ∷ scalar 3 (pos 0) Outer ∷ [])
    (site 2 Assign 0 ∷ site 2 Assign 0 ∷ site 1 Assign 0 ∷ []) []
    (set 1 1 (num 5) ∷ call 1 2 (add (var 1) (num 1) ∷ []) ∷ set 2 0 (add (bin op.Mul (var 0) (num 10)) (var 1)) ∷ []))

same_names_in_frames : outcome same_names [] 100 ≡ does [] (pos 785 ∷ []) 7 Done
unfolding tree_opened
same_names_in_frames = refl

same_names_expanded : expanded same_names 100 ≡ does [] (pos 785 ∷ []) 7 Done
unfolding tree_opened
same_names_expanded = refl

-- void f(int a, int b, int c) { } int main() { f(1, SECOND, 2); }, with the call on line 3
abbrev three : Expr → Program
three second = with_functions (function (0 ∷ 1 ∷ 2 ∷ []) [] ∷ [])
    (program (scalar 0 (pos 0) Outer ∷ scalar 1 (pos 0) Outer ∷ scalar 2 (pos 0) Outer ∷ []) [] [] (call 0 3 (num 1 ∷ second ∷ num 2 ∷ []) ∷ []))

-- the second of three bindings faults: the first one is a step
second_faults : outcome (three (bin op.Div (num 1) (num 0))) [] 100 ≡ does [] [] 1 (Fault (record { kind = Divide; line = 3 }))
unfolding tree_opened
second_faults = refl

second_faults_expanded : expanded (three (bin op.Div (num 1) (num 0))) 100 ≡ does [] [] 1 (Fault (record { kind = Divide; line = 3 }))
unfolding tree_opened
second_faults_expanded = refl

-- the fuel ends between two bindings
between_bindings : outcome (three (num 5)) [] 2 ≡ does [] [] 2 Fuel
unfolding tree_opened
between_bindings = refl

between_bindings_expanded : expanded (three (num 5)) 2 ≡ does [] [] 2 Fuel
unfolding tree_opened
between_bindings_expanded = refl

-- and where it ends behind the last one, nothing is left
behind_bindings : outcome (three (num 5)) [] 3 ≡ does [] [] 3 Done
unfolding tree_opened
behind_bindings = refl

behind_bindings_expanded : expanded (three (num 5)) 3 ≡ does [] [] 3 Done
unfolding tree_opened
behind_bindings_expanded = refl

-- 1  int g;
-- 2  void f(int a) {
-- 3    int b = a + 1;
-- 4    g = g * 100 + b; }
-- 6    int i = 0;
-- 7    #pragma dswp
-- 8    while (i < 3) {
-- 9      if (i == 1) { f(10); } else { f(i); }
-- 10     i = i + 1; }
abbrev branching : Program
branching = with_functions (function (2 ∷ []) (set 5 3 (add (var 2) (num 1)) ∷ set 6 0 (add (bin op.Mul (var 0) (num 100)) (var 3)) ∷ []) ∷ [])
    (program (scalar 0 (pos 0) Global ∷ scalar 1 (pos 0) Outer ∷ scalar 2 (pos 0) Outer ∷ scalar 3 (pos 0) Outer ∷ [])
    (site 6 Assign 0 ∷ site 8 While 1 ∷ site 9 If 1 ∷ site 10 Assign 1 ∷ site 3 Assign 0 ∷ site 4 Assign 0 ∷ []) (one_region 8 2 4)
    (set 1 1 (num 0) ∷ region 1 2 (bin op.Lt (var 1) (num 3))
    (stmt.If (record { 0 = 3 }) (bin op.Eq (var 1) (num 1)) (call 0 9 (num 10 ∷ []) ∷ []) (call 0 9 (var 1 ∷ []) ∷ [])
    ∷ set 4 1 (add (var 1) (num 1)) ∷ []) ∷ []))

branching_in_frames : outcome branching [] 100 ≡ does [] (pos 11103 ∷ []) 20 Done
unfolding tree_opened
branching_in_frames = refl

branching_expanded : expanded branching 100 ≡ does [] (pos 11103 ∷ []) 20 Done
unfolding tree_opened
branching_expanded = refl

branching_is_checked : IsChecked branching
unfolding tree_opened
branching_is_checked = record { globals = refl; cells = refl; sites = refl; roles = refl; regions = refl; functions = refl; scoped = refl }

-- void e() { } void k(int a) { } void s() { print(8); } int main() { e(); k(4); e(); s(); print(7); }
abbrev with_empty : Program
with_empty = with_functions (function [] [] ∷ function (0 ∷ []) [] ∷ function [] (say 2 (num 8) ∷ []) ∷ [])
    (program (scalar 0 (pos 0) Outer ∷ []) (site 1 Print 0 ∷ site 1 Print 0 ∷ []) []
    (call 0 1 [] ∷ call 1 1 (num 4 ∷ []) ∷ call 0 1 [] ∷ call 2 1 [] ∷ say 1 (num 7) ∷ []))

empty_in_frames : outcome with_empty [] 100 ≡ does (pos 8 ∷ pos 7 ∷ []) [] 3 Done
unfolding tree_opened
empty_in_frames = refl

empty_expanded : expanded with_empty 100 ≡ does (pos 8 ∷ pos 7 ∷ []) [] 3 Done
unfolding tree_opened
empty_expanded = refl

-- 1  int g;
-- 2  void f(int a) {
-- 3    int b = a + 1;
-- 4    g = g * 100 + b; }
-- 6    int i = 0;
-- 7    #pragma dswp
-- 8    while (i < 9) {
-- 9      f(i);
-- 10     if (i == 1) break;
-- 11     f(7);
-- 12     i = i + 1; }
-- 13   f(i);
-- Calls stand before and behind an early exit, and behind the region.
abbrev leaving : Program
leaving = with_functions (function (2 ∷ []) (set 5 3 (add (var 2) (num 1)) ∷ set 6 0 (add (bin op.Mul (var 0) (num 100)) (var 3)) ∷ []) ∷ [])
    (program (scalar 0 (pos 0) Global ∷ scalar 1 (pos 0) Outer ∷ scalar 2 (pos 0) Outer ∷ scalar 3 (pos 0) Outer ∷ [])
    (site 6 Assign 0 ∷ site 8 While 1 ∷ site 10 Break 1 ∷ site 12 Assign 1 ∷ site 3 Assign 0 ∷ site 4 Assign 0 ∷ []) (one_region 8 2 4)
    (set 1 1 (num 0) ∷ region 1 2 (bin op.Lt (var 1) (num 9))
    (call 0 9 (var 1 ∷ []) ∷ stmt.Break (record { 0 = 3 }) (bin op.Eq (var 1) (num 1)) ∷ call 0 11 (num 7 ∷ []) ∷ set 4 1 (add (var 1) (num 1)) ∷ [])
    ∷ call 0 13 (var 1 ∷ []) ∷ []))

leaving_in_frames : outcome leaving [] 100 ≡ does [] (pos 1080202 ∷ []) 18 Done
unfolding tree_opened
leaving_in_frames = refl

leaving_expanded : expanded leaving 100 ≡ does [] (pos 1080202 ∷ []) 18 Done
unfolding tree_opened
leaving_expanded = refl

-- the fuel ends with the break: what is left is the call behind the region
leaving_at_the_break : outcome leaving [] 15 ≡ does [] (pos 10802 ∷ []) 15 Fuel
unfolding tree_opened
leaving_at_the_break = refl

leaving_at_the_break_expanded : expanded leaving 15 ≡ does [] (pos 10802 ∷ []) 15 Fuel
unfolding tree_opened
leaving_at_the_break_expanded = refl

leaving_is_checked : IsChecked leaving
unfolding tree_opened
leaving_is_checked = record { globals = refl; cells = refl; sites = refl; roles = refl; regions = refl; functions = refl; scoped = refl }
