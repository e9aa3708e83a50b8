-- A plain loop with both branches of an `if`, a start value, and the line of a fault.
use Rattle.std.proofs.Common.{◌≡◌, refl, ℕ, List, [], ◌∷◌, ℤ, pos, length}
use Rattle.dp_base.specs.declared.End.{End}
use Rattle.dp_base.specs.declared.End.TheVariants.{Fault}
use Rattle.dp_base.specs.declared.FaultKind.TheVariants.{Divide}
use Rattle.dp_base.specs.declared.BinOp.TheVariants as op
use Rattle.dp_tree.specs.declared.Stmt.TheVariants as stmt
use Rattle.dp_tree.specs.declared.VarScope.TheVariants.{Global, Outer}
use Rattle.dp_tree.specs.declared.SiteKind.TheVariants.{Assign, Print, If, While}
use Rattle.dp_tree.specs.declared.Program.{Program}
use Rattle.dp_tree.specs.Trace.{Run, run_of, begin}
use Rattle.dp_tree.specs.Iteration.{cells_after}
use Rattle.dp_tree.proofs.Build.{num, var, bin, set, say, loop, scalar, site, program, tree_opened}
use Rattle.dp_tree.proofs.Programs.{add}

-- 1  int s = 5;
-- 2  int t;
-- 4    int i = 0;
-- 5    while (i < 3) {
-- 6      if (i == 1) {
-- 7        s = s + 10;
--        } else {
-- 9        t = t + 1;
--        }
-- 11     i = i + 1;
--      }
-- 13   print(s / (t - 2));
abbrev choosing : Program
choosing = program
    (scalar 0 (pos 5) Global ∷ scalar 1 (pos 0) Global ∷ scalar 2 (pos 0) Outer ∷ [])
    (site 4 Assign 0 ∷ site 5 While 0 ∷ site 6 If 0 ∷ site 7 Assign 0 ∷ site 9 Assign 0 ∷ site 11 Assign 0 ∷ site 13 Print 0 ∷ []) []
    (set 1 2 (num 0) ∷ loop 2 (bin op.Lt (var 2) (num 3))
    (stmt.If (record { 0 = 3 }) (bin op.Eq (var 2) (num 1)) (set 4 0 (add (var 0) (num 10)) ∷ []) (set 5 1 (add (var 1) (num 1)) ∷ [])
    ∷ set 6 2 (add (var 2) (num 1)) ∷ []) ∷ say 7 (bin op.Div (var 0) (bin op.Sub (var 1) (num 2))) ∷ [])

record Summary : Type 0 where
  cells : List ℤ
  steps : ℕ
  end : End

abbrev summary_of : Run → Summary
summary_of run = record { cells = cells_after run (length run.trace); steps = length run.trace; end = run.end }

-- the `if` goes the first way once and the other way twice, and the print divides by 0
whole : summary_of (run_of choosing [] 100 (begin choosing))
    ≡ record { cells = pos 15 ∷ pos 2 ∷ pos 3 ∷ []; steps = 14; end = Fault (record { kind = Divide; line = 13 }) }
unfolding tree_opened
whole = refl
