-- Logs of small runs, computed.
use Rattle.std.proofs.Common.{◌≡◌, refl, [], ◌∷◌, pos, codes}
use Rattle.dp_text.specs.Labels.{labelled}
use Rattle.dp_base.specs.declared.BinOp.TheVariants as op
use Rattle.dp_tree.specs.declared.VarScope.TheVariants.{Global, Body}
use Rattle.dp_tree.specs.declared.SiteKind.TheVariants.{Assign, While}
use Rattle.dp_tree.specs.declared.Program.{Program}
use Rattle.dp_tree.proofs.Build.{num, var, bin, set, region, scalar, site, one_region, program, tree_opened}
use Rattle.dp_tree.proofs.Programs.{add, same_value_store, stale_read, sum_loop}
use Rattle.dp_plan.proofs.Plans.{stale_read_plan}
use Rattle.dp_semantics.specs.OneStage.{one_stage_plan}
use Rattle.dp_semantics.specs.Verdict.{source_run}
use Rattle.dp_report.specs.Lines.{labelled_signed}
use Rattle.dp_log.specs.LogText.{log_bytes, logged_regions}

whole : log_bytes sum_loop (one_stage_plan sum_loop 1 ∷ []) (source_run sum_loop [] 10000)
    ≡ codes "log 1\nregion 1\ncommit 0\nset 1 1\nprint 0\ncommit 1\nset 0 1\nset 1 2\nprint 1\ncommit 2\nset 0 3\nset 1 3\nprint 3\ncommit 3\nclosed 1\nend done\n"
unfolding tree_opened labelled labelled_signed Rattle.std.specs.Fmt.digits
whole = refl

-- the fuel is spent within iteration 2, which changed nothing
cut : log_bytes sum_loop (one_stage_plan sum_loop 1 ∷ []) (source_run sum_loop [] 10) ≡ codes
    "log 1\nregion 1\ncommit 0\nset 1 1\nprint 0\ncommit 1\nset 0 1\nset 1 2\nprint 1\nagain 2\nend fuel\n"
unfolding tree_opened labelled labelled_signed Rattle.std.specs.Fmt.digits
cut = refl

-- .. and exactly before its condition, so that it isn't begun
before_a_condition : log_bytes sum_loop (one_stage_plan sum_loop 1 ∷ []) (source_run sum_loop [] 9) ≡ codes
    "log 1\nregion 1\ncommit 0\nset 1 1\nprint 0\ncommit 1\nset 0 1\nset 1 2\nprint 1\nend fuel\n"
unfolding tree_opened labelled labelled_signed Rattle.std.specs.Fmt.digits
before_a_condition = refl

-- no iteration of the region is begun
none : log_bytes sum_loop (one_stage_plan sum_loop 1 ∷ []) (source_run sum_loop [] 1) ≡ codes "log 1\nend fuel\n"
unfolding tree_opened labelled labelled_signed Rattle.std.specs.Fmt.digits
none = refl

-- what stage 1 reads too early is executed again, and its changes and those of the others are told alike
again : logged_regions stale_read (stale_read_plan ∷ []) (source_run stale_read [] 10000)
    ≡ codes "region 1\ncommit 0\nset 2 1\nset 9 1\ncommit 1\nset 3 2\nset 9 2\nagain 2\nset 4 3\nset 8 1\nset 9 3\ncommit 3\nset 5 4\nset 8 3\nset 9 4\ncommit 4\nset 6 5\nset 8 6\nset 9 5\nagain 5\nset 7 6\nset 8 10\nset 9 6\ncommit 6\nclosed 1\n"
unfolding tree_opened labelled labelled_signed Rattle.std.specs.Fmt.digits
again = refl

-- a store of the value that the cell has changes nothing
same_values : logged_regions same_value_store (stale_read_plan ∷ []) (source_run same_value_store [] 10000)
    ≡ codes "region 1\ncommit 0\nset 9 1\ncommit 1\nset 9 2\ncommit 2\nset 9 3\ncommit 3\nset 9 4\ncommit 4\nset 9 5\ncommit 5\nset 9 6\ncommit 6\nclosed 1\n"
unfolding tree_opened labelled labelled_signed Rattle.std.specs.Fmt.digits
same_values = refl

-- while (s < 2) { x = 5; s = s + 1; }, where x is a body local
abbrev local_first : Program
local_first = program
    (scalar 0 (pos 0) Global ∷ scalar 1 (pos 0) (Body 1) ∷ [])
    (site 1 While 1 ∷ site 1 Assign 1 ∷ site 1 Assign 1 ∷ [])
    (one_region 1 1 3)
    (region 1 1 (bin op.Lt (var 0) (num 2)) (set 2 1 (num 5) ∷ set 3 0 (add (var 0) (num 1)) ∷ []) ∷ [])

-- x isn't told, also where the run ends while it holds 5
body_locals : (logged_regions local_first (one_stage_plan local_first 1 ∷ []) (source_run local_first [] 2) ≡ codes "region 1\nagain 0\n")
    × (logged_regions local_first (one_stage_plan local_first 1 ∷ []) (source_run local_first [] 100) ≡ codes
    "region 1\ncommit 0\nset 0 1\ncommit 1\nset 0 2\ncommit 2\nclosed 1\n")
unfolding tree_opened labelled labelled_signed Rattle.std.specs.Fmt.digits
body_locals = (refl, refl)
