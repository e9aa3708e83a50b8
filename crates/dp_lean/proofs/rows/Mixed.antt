-- A program with a site of each kind, in four stages of which the third is replicated.
use Rattle.std.proofs.Common.{Bool, List, [], ◌∷◌, pos}
use Rattle.dp_base.specs.declared.BinOp.TheVariants as op
use Rattle.dp_tree.specs.declared.VarScope.TheVariants.{Global, Outer, Body}
use Rattle.dp_tree.specs.declared.SiteKind.TheVariants.{Assign, Print, If, While}
use Rattle.dp_tree.specs.declared.Expr.TheVariants as tree
use Rattle.dp_tree.specs.declared.Stmt.{Stmt}
use Rattle.dp_tree.specs.declared.Stmt.TheVariants as stmt
use Rattle.dp_tree.specs.declared.Program.{Program}
use Rattle.dp_tree.proofs.Build.{num, var, bin, set, set_at, say, when, loop, region, scalar, array, site, one_region, program}
use Rattle.dp_plan.specs.declared.Plan.{Plan}
use Rattle.dp_plan.specs.declared.StageKind.TheVariants.{Seq, Par}
use Rattle.dp_plan.proofs.Plans.{plan}
use Rattle.dp_semantics.specs.Packets.{Epoch}
use Rattle.dp_net.specs.NetItems.{Marks}
use Rattle.dp_net.specs.Hidden.{marks_of}

-- 1   int a[4];
-- 2   int s;
-- 4     int i = 0;
-- 5     #pragma dswp
-- 6     while (i < input_len) {      stage 1
-- 7       int x = input[i];          stage 1
-- 8       i = i + 1;                 stage 1
-- 9       int y = x + 1;             stage 2
-- 10      if (x < 2) {               stage 1
-- 11        int t = s;               stage 1
--         }
-- 13      int j = 0; while (j < y) { stage 2, without the assignment
-- 14        j = j + 1;               stage 2
--         }
-- 16      int u = i + j;             stage 3
-- 17      s = s + u;                 stage 4
-- 18      a[y] = 1;                  stage 4
-- 19      print(x);                  stage 1
-- 20      if (9 < y) break;          stage 2
abbrev pub mixed : Program
mixed = program
    (array 0 4 ∷ scalar 4 (pos 0) Global ∷ scalar 5 (pos 0) Outer ∷ scalar 6 (pos 0) (Body 1) ∷ scalar 7 (pos 0) (Body 1)
    ∷ scalar 8 (pos 0) (Body 1) ∷ scalar 9 (pos 0) (Body 1) ∷ scalar 10 (pos 0) (Body 1) ∷ [])
    (site 4 Assign 0 ∷ site 6 While 1 ∷ site 7 Assign 1 ∷ site 8 Assign 1 ∷ site 9 Assign 1 ∷ site 10 If 1 ∷ site 11 Assign 1 ∷ site 13 While 1
    ∷ site 14 Assign 1 ∷ site 16 Assign 1 ∷ site 17 Assign 1 ∷ site 18 Assign 1 ∷ site 19 Print 1 ∷ site 20 If 1 ∷ [])
    (one_region 6 2 14)
    (set 1 2 (num 0) ∷ region 1 2 (bin op.Lt (var 2) tree.InputLen)
    (set 3 3 (tree.Input (var 2)) ∷ set 4 2 (bin op.Add (var 2) (num 1)) ∷ set 5 4 (bin op.Add (var 3) (num 1))
    ∷ when 6 (bin op.Lt (var 3) (num 2)) (set 7 6 (var 1) ∷ []) ∷ loop 8 (bin op.Lt (var 5) (var 4)) (set 9 5 (bin op.Add (var 5) (num 1)) ∷ [])
    ∷ set 10 7 (bin op.Add (var 2) (var 5)) ∷ set 11 1 (bin op.Add (var 1) (var 7)) ∷ set_at 12 0 (var 4) (num 1) ∷ say 13 (var 3)
    ∷ stmt.Break (record { 0 = 14 }) (bin op.Lt (num 9) (var 4)) ∷ []) ∷ [])

-- the site 7 alone is checked: it loads what stage 4 stores
abbrev pub mixed_plan : Plan
mixed_plan = plan 64 (Seq ∷ Seq ∷ Par ∷ Seq ∷ []) (1 ∷ 1 ∷ 1 ∷ 2 ∷ 1 ∷ 1 ∷ 2 ∷ 2 ∷ 3 ∷ 4 ∷ 4 ∷ 1 ∷ 2 ∷ []) []

-- each run of quiet statements is a block, or none is
abbrev pub marks : Bool → Marks
marks blocks = marks_of mixed mixed_plan (λ (block : List Stmt). blocks)

abbrev pub epoch : Epoch
epoch = record {
  program = mixed;
  plan = mixed_plan;
  input = pos 1 ∷ pos 5 ∷ [];
  base = pos 0 ∷ pos 0 ∷ pos 0 ∷ pos 0 ∷ pos 0 ∷ pos 0 ∷ pos 0 ∷ pos 0 ∷ pos 0 ∷ pos 0 ∷ pos 0 ∷ [];
}
