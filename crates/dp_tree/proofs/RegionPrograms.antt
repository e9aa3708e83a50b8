-- Test programs of a region with an early exit, and of regions that go through an array.
use Rattle.std.proofs.Common.{[], ◌∷◌, pos}
use Rattle.dp_base.specs.declared.BinOp.TheVariants as op
use Rattle.dp_tree.specs.declared.VarScope.TheVariants.{Global, Outer, Body}
use Rattle.dp_tree.specs.declared.SiteKind.TheVariants.{Assign, While, Break}
use Rattle.dp_tree.specs.declared.Program.{Program}
use Rattle.dp_tree.specs.declared.Expr.TheVariants as tree
use Rattle.dp_tree.specs.declared.Stmt.TheVariants as stmt
use Rattle.dp_tree.proofs.Build.{num, var, at, bin, set, set_at, region, scalar, array, site, one_region, program}
use Rattle.dp_tree.proofs.Programs.{add}

-- 1  int n;
-- 3    #pragma dswp
-- 4    for (int i = 0; i < input_len; i = i + 1) {
-- 5      int x = input[i];
-- 6      if (x < 0) break;
-- 7      n = n + x;
abbrev pub early_exit : Program
early_exit = program
    (scalar 0 (pos 0) Global ∷ scalar 1 (pos 0) Outer ∷ scalar 2 (pos 0) (Body 1) ∷ [])
    (site 4 Assign 0 ∷ site 4 While 1 ∷ site 5 Assign 1 ∷ site 6 Break 1 ∷ site 7 Assign 1 ∷ site 4 Assign 1 ∷ [])
    (one_region 4 2 6)
    (set 1 1 (num 0) ∷ region 1 2 (bin op.Lt (var 1) tree.InputLen)
    (set 3 2 (tree.Input (var 1)) ∷ stmt.Break (record { 0 = 4 }) (bin op.Lt (var 2) (num 0)) ∷ set 5 0 (add (var 0) (var 2))
    ∷ set 6 1 (add (var 1) (num 1)) ∷ []) ∷ [])

-- 1  int a[9];
-- 2  int s;
-- 4    int i = 0;
-- 5    a[3] = 7;
-- 7    while (i < 8) {
-- 8      s = s + a[i + 1];   four times
-- 12     a[i] = i + 1;
-- 13     i = i + 1;
abbrev pub far_reads : Program
far_reads = program
    (array 0 9 ∷ scalar 9 (pos 0) Global ∷ scalar 10 (pos 0) Outer ∷ [])
    (site 4 Assign 0 ∷ site 5 Assign 0 ∷ site 7 While 1 ∷ site 8 Assign 1 ∷ site 9 Assign 1 ∷ site 10 Assign 1 ∷ site 11 Assign 1 ∷ site 12 Assign 1
    ∷ site 13 Assign 1 ∷ [])
    (one_region 7 3 9)
    (set 1 2 (num 0) ∷ set_at 2 0 (num 3) (num 7) ∷ region 1 3 (bin op.Lt (var 2) (num 8))
    (set 4 1 (add (var 1) (at 0 (add (var 2) (num 1)))) ∷ set 5 1 (add (var 1) (at 0 (add (var 2) (num 1))))
    ∷ set 6 1 (add (var 1) (at 0 (add (var 2) (num 1)))) ∷ set 7 1 (add (var 1) (at 0 (add (var 2) (num 1))))
    ∷ set_at 8 0 (var 2) (add (var 2) (num 1)) ∷ set 9 2 (add (var 2) (num 1)) ∷ []) ∷ [])

-- 1  int a[5];
-- 2  int s;
-- 4    int i = 0;
-- 6    while (i < 4) {
-- 7      s = s + a[i];
-- 8      i = i + 1;
-- 9      a[i] = 7;
abbrev pub near_reads : Program
near_reads = program
    (array 0 5 ∷ scalar 5 (pos 0) Global ∷ scalar 6 (pos 0) Outer ∷ [])
    (site 4 Assign 0 ∷ site 6 While 1 ∷ site 7 Assign 1 ∷ site 8 Assign 1 ∷ site 9 Assign 1 ∷ [])
    (one_region 6 2 5)
    (set 1 2 (num 0) ∷ region 1 2 (bin op.Lt (var 2) (num 4)) (set 3 1 (add (var 1) (at 0 (var 2))) ∷ set 4 2 (add (var 2) (num 1))
    ∷ set_at 5 0 (var 2) (num 7) ∷ []) ∷ [])
