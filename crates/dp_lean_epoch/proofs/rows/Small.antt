-- A loop in three stages, of which the second is replicated, and loads what the third stores.
use Rattle.std.proofs.Common.{List, [], ◌∷◌, pos, true}
use Rattle.dp_base.specs.declared.BinOp.TheVariants as op
use Rattle.dp_tree.specs.declared.VarScope.TheVariants.{Global, Outer, Body}
use Rattle.dp_tree.specs.declared.SiteKind.TheVariants.{Assign, While}
use Rattle.dp_tree.specs.declared.Expr.TheVariants as tree
use Rattle.dp_tree.specs.declared.Stmt.{Stmt}
use Rattle.dp_tree.specs.declared.Program.{Program}
use Rattle.dp_tree.proofs.Build.{num, var, bin, set, region, scalar, site, one_region, program}
use Rattle.dp_plan.specs.declared.Plan.{Plan}
use Rattle.dp_plan.specs.declared.StageKind.TheVariants.{Seq, Par}
use Rattle.dp_plan.proofs.Plans.{plan}
use Rattle.dp_semantics.specs.EpochKey.{EpochKey}
use Rattle.dp_net.specs.NetItems.{Marks}
use Rattle.dp_net.specs.Hidden.{marks_of}

-- 1   int s;
-- 3     int i = 0;
-- 4     #pragma dswp
-- 5     while (i < input_len) {      site 2, stage 1
-- 6       int x = input[i];          site 3, stage 1
-- 7       i = i + 1;                 site 4, stage 1
-- 8       int y = x + s;             site 5, stage 2
-- 9       s = s + y;                 site 6, stage 3
--       }
abbrev pub small : Program
small = program
    (scalar 0 (pos 0) Global ∷ scalar 1 (pos 0) Outer ∷ scalar 2 (pos 0) (Body 1) ∷ scalar 3 (pos 0) (Body 1) ∷ [])
    (site 3 Assign 0 ∷ site 5 While 1 ∷ site 6 Assign 1 ∷ site 7 Assign 1 ∷ site 8 Assign 1 ∷ site 9 Assign 1 ∷ [])
    (one_region 5 2 6)
    (set 1 1 (num 0) ∷ region 1 2 (bin op.Lt (var 1) tree.InputLen)
    (set 3 2 (tree.Input (var 1)) ∷ set 4 1 (bin op.Add (var 1) (num 1)) ∷ set 5 3 (bin op.Add (var 2) (var 0))
    ∷ set 6 0 (bin op.Add (var 0) (var 3)) ∷ []) ∷ [])

abbrev pub small_plan : Plan
small_plan = plan 64 (Seq ∷ Par ∷ Seq ∷ []) (1 ∷ 1 ∷ 1 ∷ 2 ∷ 3 ∷ []) []

-- .. with the third stage replicated in place of the second
abbrev pub adding_plan : Plan
adding_plan = plan 64 (Seq ∷ Seq ∷ Par ∷ []) (1 ∷ 1 ∷ 1 ∷ 2 ∷ 3 ∷ []) []

-- each run of quiet statements is a block
abbrev pub marks : Marks
marks = marks_of small small_plan (λ (block : List Stmt). true)

-- s is 4
abbrev pub key : EpochKey
key = record {
  program = small;
  plan = small_plan;
  input = pos 5 ∷ pos 7 ∷ [];
  first = 0;
  base = pos 4 ∷ pos 0 ∷ pos 0 ∷ pos 0 ∷ [];
  steps = 0;
  fuel = 100;
}
