-- A region's body locals read 0 in each iteration.
use Rattle.std.proofs.Common.{◌≡◌, refl, [], ◌∷◌, pos, length}
use Rattle.dp_base.specs.declared.BinOp.TheVariants as op
use Rattle.dp_tree.specs.declared.VarScope.TheVariants.{Global, Body}
use Rattle.dp_tree.specs.declared.SiteKind.TheVariants.{Assign, While}
use Rattle.dp_tree.specs.declared.Program.{Program}
use Rattle.dp_tree.specs.Trace.{Run, run_of, begin}
use Rattle.dp_tree.specs.Iteration.{cells_after}
use Rattle.dp_tree.proofs.Build.{num, var, bin, set, region, scalar, site, one_region, program, tree_opened}
use Rattle.dp_tree.proofs.Programs.{add}

-- No text that is accepted reads a body local before it has a value; this tree does.
-- while (s < 2) { s = s + 1 + x; x = 5; }, where x is a body local
abbrev reading_early : Program
reading_early = program
    (scalar 0 (pos 0) Global ∷ scalar 1 (pos 0) (Body 1) ∷ [])
    (site 1 While 1 ∷ site 1 Assign 1 ∷ site 1 Assign 1 ∷ [])
    (one_region 1 1 3)
    (region 1 1 (bin op.Lt (var 0) (num 2)) (set 2 0 (add (add (var 0) (num 1)) (var 1)) ∷ set 3 1 (num 5) ∷ []) ∷ [])

abbrev whole : Run
whole = run_of reading_early [] 100 (begin reading_early)

-- x is 0 again in the second iteration, and where the closing one begins
reads_zero : cells_after whole (length whole.trace) ≡ pos 2 ∷ pos 0 ∷ []
unfolding tree_opened
reads_zero = refl
