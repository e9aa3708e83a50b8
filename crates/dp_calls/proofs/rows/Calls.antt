-- Programs with calls: with frames of their own, and expanded.
use Rattle.std.proofs.Common.{◌≡◌, refl, ℕ, zero, suc, List, [], ◌∷◌, ◌++◌, ℤ, pos, length}
use Rattle.dp_base.specs.declared.End.TheVariants.{Done, Fault, Fuel}
use Rattle.dp_base.specs.declared.FaultKind.TheVariants.{Divide}
use Rattle.dp_base.specs.declared.BinOp.TheVariants as op
use Rattle.dp_tree.specs.declared.VarScope.TheVariants.{Global, Outer, Body}
use Rattle.dp_tree.specs.declared.SiteKind.TheVariants.{Assign, Print, While}
use Rattle.dp_tree.specs.declared.Expr.TheVariants as tree
use Rattle.dp_tree.specs.declared.Function.{Function}
use Rattle.dp_tree.specs.declared.Program.{Program}
use Rattle.dp_tree.specs.Trace.{Run, run_of, begin, prints}
use Rattle.dp_calls.specs.Expand.{expand}
use Rattle.dp_calls.specs.ExpandLaws.{erased}
use Rattle.dp_calls.specs.Frames.{outcome}
use Rattle.dp_tree.proofs.Build.{num, var, at, bin, set, say, when, loop, region, call, scalar, site, one_region, function, program, with_functions}
use Rattle.dp_tree.proofs.Build.{tree_opened}
use Rattle.dp_tree.proofs.Programs.{add, word_table, word_table_expanded}

abbrev run_expanded : Program → List ℤ → ℕ → Run
run_expanded p input fuel = run_of (expand p) input fuel (begin (expand p))

-- int g; void add(int a, int b) { g = g + a; g = g + b; } int main() { add(2, 3); add(g, 1); print(g); }
abbrev adding : Program
adding = with_functions
    (function (1 ∷ 2 ∷ []) (set 2 0 (add (var 0) (var 1)) ∷ set 3 0 (add (var 0) (var 2)) ∷ []) ∷ [])
    (program (scalar 0 (pos 0) Global ∷ scalar 1 (pos 0) Outer ∷ scalar 2 (pos 0) Outer ∷ []) (site 1 Print 0 ∷ site 1 Assign 0 ∷ site 1 Assign 0 ∷ []) []
    (call 0 1 (num 2 ∷ num 3 ∷ []) ∷ call 0 1 (var 0 ∷ num 1 ∷ []) ∷ say 1 (var 0) ∷ []))

adds : outcome adding [] 100 ≡ record { prints = pos 11 ∷ []; globals = pos 11 ∷ []; steps = 9; end = Done }
unfolding tree_opened
adds = refl

-- the print is the ninth step
adds_before_the_print : outcome adding [] 8 ≡ record { prints = []; globals = pos 11 ∷ []; steps = 8; end = Fuel }
unfolding tree_opened
adds_before_the_print = refl

-- the fifth step binds the second call's first argument
adds_at_a_binding : outcome adding [] 5 ≡ record { prints = []; globals = pos 5 ∷ []; steps = 5; end = Fuel }
unfolding tree_opened
adds_at_a_binding = refl

-- each expanded call has parameters of its own: the cells are g, then a and b of the first call, then those of the second
adds_expanded : (expand adding).main
    ≡ set 1 1 (num 2) ∷ set 2 2 (num 3) ∷ set 3 0 (add (var 0) (var 1)) ∷ set 4 0 (add (var 0) (var 2))
    ∷ set 5 3 (var 0) ∷ set 6 4 (num 1) ∷ set 7 0 (add (var 0) (var 3)) ∷ set 8 0 (add (var 0) (var 4)) ∷ say 9 (var 0) ∷ []
unfolding tree_opened
adds_expanded = refl

adds_expanded_prints : prints (run_expanded adding [] 100).trace ≡ pos 11 ∷ []
unfolding tree_opened
adds_expanded_prints = refl

-- void f(int a) { } int main() { f(1 / 0); }, with the call on line 3: a binding's fault has the line of the call's name
abbrev dividing : Program
dividing = with_functions (function (0 ∷ []) [] ∷ [])
    (program (scalar 0 (pos 0) Outer ∷ []) [] [] (call 0 3 (bin op.Div (num 1) (num 0) ∷ []) ∷ []))

divides : outcome dividing [] 100 ≡ record { prints = []; globals = []; steps = 0; end = Fault (record { kind = Divide; line = 3 }) }
unfolding tree_opened
divides = refl

divides_expanded : (run_expanded dividing [] 100).end ≡ Fault (record { kind = Divide; line = 3 })
unfolding tree_opened
divides_expanded = refl

-- function k calls function k - 1 twice, and the first one does nothing
abbrev twice : ℕ → List Function
twice zero = function [] [] ∷ []
twice (suc k) = twice k ++ function [] (call k 1 [] ∷ call k 1 [] ∷ []) ∷ []

abbrev doubling : ℕ → Program
doubling k = with_functions (twice k) (program [] [] [] (call k 1 [] ∷ []))

-- calls that evaluate nothing take no step, so the end is Done with no fuel
doubles : outcome (doubling 12) [] 0 ≡ record { prints = []; globals = []; steps = 0; end = Done }
unfolding tree_opened
doubles = refl

doubles_expanded : (expand (doubling 8)).main ≡ []
unfolding tree_opened
doubles_expanded = refl

-- 1  int g;
-- 2  void f(int a) {
-- 3    int b = a + 1;
-- 4    g = b; }
-- 5  int main() {
-- 6    int i = 0;
-- 7    #pragma dswp
-- 8    while (i < 1) {
-- 9      i = i + 1;
-- 10     f(i); }
-- 11   int z = g;
-- In the checked program main's variables and sites come first. Expanded, they stand in text order.
abbrev calling_in_a_region : Program
calling_in_a_region = with_functions
    (function (3 ∷ []) (set 5 4 (add (var 3) (num 1)) ∷ set 6 0 (var 4) ∷ []) ∷ [])
    (program (scalar 0 (pos 0) Global ∷ scalar 1 (pos 0) Outer ∷ scalar 2 (pos 0) Outer ∷ scalar 3 (pos 0) Outer ∷ scalar 4 (pos 0) Outer ∷ [])
    (site 6 Assign 0 ∷ site 8 While 1 ∷ site 9 Assign 1 ∷ site 11 Assign 0 ∷ site 3 Assign 0 ∷ site 4 Assign 0 ∷ [])
    (one_region 8 2 3)
    (set 1 1 (num 0) ∷ region 1 2 (bin op.Lt (var 1) (num 1)) (set 3 1 (add (var 1) (num 1)) ∷ call 0 10 (var 1 ∷ []) ∷ []) ∷ set 4 2 (var 0) ∷ []))

-- the parameter comes before the body's local, both are body locals of the region, and z comes after them
expanded_variables : (expand calling_in_a_region).vars
    ≡ scalar 0 (pos 0) Global ∷ scalar 1 (pos 0) Outer ∷ scalar 2 (pos 0) (Body 1) ∷ scalar 3 (pos 0) (Body 1) ∷ scalar 4 (pos 0) Outer ∷ []
unfolding tree_opened
expanded_variables = refl

-- a binding has the call's line, and the body's sites those of the function's text; all of them are of the region
expanded_sites : (expand calling_in_a_region).sites
    ≡ site 6 Assign 0 ∷ site 8 While 1 ∷ site 9 Assign 1 ∷ site 10 Assign 1 ∷ site 3 Assign 1 ∷ site 4 Assign 1 ∷ site 11 Assign 0 ∷ []
unfolding tree_opened
expanded_sites = refl

expanded_region : (expand calling_in_a_region).regions ≡ one_region 8 2 6
unfolding tree_opened
expanded_region = refl

abbrev words : List ℤ
words = pos 0 ∷ pos 1 ∷ pos 2 ∷ pos 3 ∷ pos 0 ∷ pos 1 ∷ []

table_expanded : expand word_table ≡ word_table_expanded
unfolding tree_opened
table_expanded = refl

table_region : (expand word_table).regions ≡ one_region 14 2 19
unfolding tree_opened
table_region = refl

table_sites : length (expand word_table).sites ≡ 21
unfolding tree_opened
table_sites = refl

table_prints : prints (run_expanded word_table words 10000).trace ≡ pos 4 ∷ pos 7 ∷ []
unfolding tree_opened
table_prints = refl

table_frames : (outcome word_table words 10000).prints ≡ pos 4 ∷ pos 7 ∷ []
unfolding tree_opened
table_frames = refl

-- the expanded program makes as many steps as the frames
table_steps : (outcome word_table words 10000).steps ≡ length (run_expanded word_table words 10000).trace
unfolding tree_opened
table_steps = refl

-- what is erased of a text: the numbers of its sites and variables, and nothing else
erased_text : erased (region 1 4 (var 3) (loop 5 (bin op.Lt (var 2) (num 7)) (when 6 (var 1) (set 7 2 (at 1 (num 9)) ∷ []) ∷ say 8 tree.InputLen ∷ []) ∷ []))
    ≡ region 1 0 (var 0) (loop 0 (bin op.Lt (var 0) (num 7)) (when 0 (var 0) (set 0 0 (at 0 (num 9)) ∷ []) ∷ say 0 tree.InputLen ∷ []) ∷ [])
unfolding tree_opened
erased_text = refl
