-- A program with all numbers that its names stand for.
use Rattle.std.proofs.Common.{◌≡◌, refl, ℕ, true, false, List, [], ◌∷◌, ℤ, pos, negsuc, inl, inr, arith, codes}
use Rattle.dp_base.specs.declared.UnOp.TheVariants as unary
use Rattle.dp_base.specs.declared.BinOp.TheVariants as op
use Rattle.dp_tree.specs.declared.Expr.TheVariants as tree
use Rattle.dp_tree.specs.declared.Stmt.TheVariants as code
use Rattle.dp_tree.specs.declared.VarInfo.{VarInfo}
use Rattle.dp_tree.specs.declared.VarScope.{VarScope}
use Rattle.dp_tree.specs.declared.VarScope.TheVariants.{Global, Outer, Body}
use Rattle.dp_tree.specs.declared.SiteKind.TheVariants as kind
use Rattle.dp_tree.specs.declared.raw.RawExpr.TheVariants as expr
use Rattle.dp_tree.specs.declared.raw.RawStmt.{RawStmt}
use Rattle.dp_tree.specs.declared.raw.RawStmt.TheVariants as stmt
use Rattle.dp_tree.specs.declared.raw.RawItem.{RawItem}
use Rattle.dp_tree.specs.declared.raw.RawItem.TheVariants as item
use Rattle.dp_tree.specs.declared.raw.RawProgram.{RawProgram}
use Rattle.dp_tree.proofs.Build as numbered
use Rattle.dp_check.specs.declared.names.Meaning.TheVariants.{Scalar}
use Rattle.dp_check.specs.Place.{IsPastNumbers}
use Rattle.dp_check.specs.Resolved.{resolved_expr}
use Rattle.dp_check.specs.Checked.{breaks_fit}
use Rattle.dp_check.specs.CheckAnswer.{resolved}
use Rattle.dp_check.proofs.rows.Build.{on, var, num, declare, set, say, names_opened}

-- 1  int n = -3;  int a[4];
-- 2  void f(int p, int q) {
-- 3    a[p] = q; int
-- 4    r = p; }
-- 5  void g(int s) {
-- 6    while (s) { f(s, 7); } }
-- 7  int k = 9;
abbrev items : List RawItem
items = item.Scalar (on 1 (codes "n")) (negsuc 2) ∷ item.Array (on 1 (codes "a")) (pos 4)
    ∷ item.Function (on 2 (codes "f")) (on 2 (codes "p") ∷ on 2 (codes "q") ∷ [])
    (stmt.Store (on 3 (codes "a")) (var 3 (codes "p")) (var 3 (codes "q")) ∷ declare 3 4 (codes "r") (var 4 (codes "p")) ∷ [])
    ∷ item.Function (on 5 (codes "g")) (on 5 (codes "s") ∷ [])
    (stmt.While 6 false (var 6 (codes "s")) (stmt.Call (on 6 (codes "f")) (var 6 (codes "s") ∷ num 7 ∷ []) ∷ []) ∷ [])
    ∷ item.Scalar (on 7 (codes "k")) (pos 9) ∷ []

-- 11 int
-- 12   i = 0;
-- 13 #pragma dswp
-- 14 while (n) { int t = a[i]; g(t); }
-- 15 if (i) { n = input[2]; } else {
-- 16   int u = input_len; }
-- 17 #pragma dswp
-- 18 while (k) { if (i) { print(5);
-- 19     i
-- 20       = 6; } }
-- 21 while (n) { int t = i; }
-- 22 print(k);
abbrev main : List RawStmt
main = declare 11 12 (codes "i") (num 0)
    ∷ stmt.While 14 true (var 14 (codes "n")) (declare 14 14 (codes "t") (expr.Element (on 14 (codes "a")) (var 14 (codes "i"))) ∷ stmt.Call (on 14 (codes "g"))
    (var 14 (codes "t") ∷ []) ∷ [])
    ∷ stmt.If 15 (var 15 (codes "i")) (set 15 (codes "n") (expr.Element (on 15 (codes "input")) (num 2)) ∷ [])
    (declare 16 16 (codes "u") (var 16 (codes "input_len")) ∷ [])
    ∷ stmt.While 18 true (var 18 (codes "k")) (stmt.If 18 (var 18 (codes "i")) (say 18 (num 5) ∷ set 19 (codes "i") (num 6) ∷ []) [] ∷ [])
    ∷ stmt.While 21 false (var 21 (codes "n")) (declare 21 21 (codes "t") (var 21 (codes "i")) ∷ [])
    ∷ say 22 (var 22 (codes "k")) ∷ []

abbrev named_scalar : List ℕ → ℕ → ℤ → VarScope → VarInfo
named_scalar name cell start scope = record (numbered.scalar cell start scope) { name = name }

abbrev raw : RawProgram
raw = record { items = items; main = main }

-- the file-scope variables, then those of `main`, then those of the functions; a function's variables are of no region
variables : (resolved raw).vars
    ≡ named_scalar (codes "n") 0 (negsuc 2) Global ∷ record (numbered.array 1 4) { name = codes "a" } ∷ named_scalar (codes "k") 5 (pos 9) Global
    ∷ named_scalar (codes "i") 6 (pos 0) Outer ∷ named_scalar (codes "t") 7 (pos 0) (Body 1) ∷ named_scalar (codes "u") 8 (pos 0) Outer
    ∷ named_scalar (codes "t") 9 (pos 0) Outer
    ∷ named_scalar (codes "p") 10 (pos 0) Outer ∷ named_scalar (codes "q") 11 (pos 0) Outer ∷ named_scalar (codes "r") 12 (pos 0) Outer
    ∷ named_scalar (codes "s") 13 (pos 0) Outer ∷ []
unfolding names_opened
variables = refl

-- the sites of `main`, then those of the functions; a site has the line of its statement's first token
sites : (resolved raw).sites
    ≡ numbered.site 11 kind.Assign 0 ∷ numbered.site 14 kind.While 1 ∷ numbered.site 14 kind.Assign 1 ∷ numbered.site 15 kind.If 0
    ∷ numbered.site 15 kind.Assign 0 ∷ numbered.site 16 kind.Assign 0
    ∷ numbered.site 18 kind.While 2 ∷ numbered.site 18 kind.If 2 ∷ numbered.site 18 kind.Print 2 ∷ numbered.site 19 kind.Assign 2
    ∷ numbered.site 21 kind.While 0 ∷ numbered.site 21 kind.Assign 0 ∷ numbered.site 22 kind.Print 0
    ∷ numbered.site 3 kind.Assign 0 ∷ numbered.site 3 kind.Assign 0 ∷ numbered.site 6 kind.While 0 ∷ []
unfolding names_opened
sites = refl

regions : (resolved raw).regions
    ≡ record { line = 14; first = record { 0 = 2 }; last = record { 0 = 3 } } ∷ record { line = 18; first = record { 0 = 7 }; last = record { 0 = 10 } } ∷ []
unfolding names_opened
regions = refl

functions : (resolved raw).functions
    ≡ numbered.function (7 ∷ 8 ∷ []) (numbered.set_at 14 1 (numbered.var 7) (numbered.var 8) ∷ numbered.set 15 9 (numbered.var 7) ∷ [])
    ∷ numbered.function (10 ∷ []) (numbered.loop 16 (numbered.var 10) (numbered.call 0 6 (numbered.var 10 ∷ numbered.num 7 ∷ []) ∷ []) ∷ []) ∷ []
unfolding names_opened
functions = refl

main_statements : (resolved raw).main
    ≡ numbered.set 1 3 (numbered.num 0) ∷ numbered.region 1 2 (numbered.var 0) (numbered.set 3 4 (numbered.at 1 (numbered.var 3))
    ∷ numbered.call 1 14 (numbered.var 4 ∷ []) ∷ [])
    ∷ code.If (record { 0 = 4 }) (numbered.var 3) (numbered.set 5 0 (tree.Input (numbered.num 2)) ∷ []) (numbered.set 6 5 tree.InputLen ∷ [])
    ∷ numbered.region 2 7 (numbered.var 2) (numbered.when 8 (numbered.var 3) (numbered.say 9 (numbered.num 5) ∷ numbered.set 10 3 (numbered.num 6) ∷ []) ∷ [])
    ∷ numbered.loop 11 (numbered.var 0) (numbered.set 12 6 (numbered.var 3) ∷ []) ∷ numbered.say 13 (numbered.var 2) ∷ []
unfolding names_opened
main_statements = refl

-- each form of an expression keeps its operator and the order of its operands
expressions : resolved_expr (record { name = codes "x"; meaning = Scalar (record { 0 = 8 }) } ∷ [])
    (expr.Or (expr.And (var 1 (codes "x")) (num 2)) (expr.Binary op.Sub (expr.Unary unary.Not (num 3))
    (expr.Binary op.Lt (num 4) (expr.Unary unary.Neg (var 1 (codes "x"))))))
    ≡ tree.Or (tree.And (numbered.var 8) (numbered.num 2)) (tree.Binary op.Sub (tree.Unary unary.Not (numbered.num 3))
    (tree.Binary op.Lt (numbered.num 4) (tree.Unary unary.Neg (numbered.var 8))))
unfolding names_opened
expressions = refl

-- a marked loop is a region at the top of `main` alone
inner_mark : (resolved (record { items = []; main = stmt.If 1 (num 1) (stmt.While 2 true (num 2) [] ∷ []) [] ∷ [] })).main
    ≡ numbered.when 1 (numbered.num 1) (numbered.loop 2 (numbered.num 2) [] ∷ []) ∷ []
unfolding names_opened
inner_mark = refl

-- no break stands in it
unbroken : breaks_fit raw ≡ true
unfolding names_opened
unbroken = refl

-- the last number of 32 bits isn't past them
last_numbers : ¬ IsPastNumbers (record { names = []; variable = 4294967295; site = 4294967295 })
last_numbers (inl past) = omega (arith, past)
last_numbers (inr past) = omega (arith, past)
