-- Accesses that move evenly with a variable: which pairs are far, which sites are checked, and what is executed again, computed.
use Rattle.std.proofs.Common.{◌≡◌, refl, true, false, [], ◌∷◌, pos, map}
use Rattle.dp_base.specs.declared.BinOp.TheVariants as op
use Rattle.dp_tree.specs.declared.SiteKind.TheVariants.{Assign, While}
use Rattle.dp_tree.specs.declared.VarScope.TheVariants.{Global, Outer, Body}
use Rattle.dp_tree.specs.declared.Program.{Program}
use Rattle.dp_tree.specs.Iteration.{begun_count, memory_after}
use Rattle.dp_tree.proofs.Build.{array, at, bin, num, one_region, program, region, scalar, set, set_at, site, tree_opened, var, loop}
use Rattle.dp_tree.proofs.Programs.{add}
use Rattle.dp_tree.proofs.RegionPrograms.{far_reads, near_reads}
use Rattle.dp_plan.specs.declared.Plan.{Plan}
use Rattle.dp_plan.specs.declared.StageKind.TheVariants.{Seq, Par}
use Rattle.dp_plan.proofs.Plans.{plan, proved, unchecked}
use Rattle.dp_plan.specs.IsFar.{is_far, is_far_within}
use Rattle.dp_plan.specs.Checked.{is_checked}
use Rattle.dp_semantics.specs.Recovery.{recovered}
use Rattle.dp_semantics.specs.Fits.{fits_plan}
use Rattle.dp_semantics.specs.Verdict.{source_run}

-- the array's store in stage 2, in version 1 and in version 2
abbrev ahead_first : Plan
ahead_first = unchecked 7 (plan 16 (Seq ∷ Seq ∷ []) (1 ∷ 1 ∷ 1 ∷ 1 ∷ 1 ∷ 2 ∷ 1 ∷ []) [])

abbrev ahead_second : Plan
ahead_second = proved (unchecked 7 (plan 16 (Seq ∷ Seq ∷ []) (1 ∷ 1 ∷ 1 ∷ 1 ∷ 1 ∷ 2 ∷ 1 ∷ []) []))

abbrev behind_second : Plan
behind_second = proved (unchecked 4 (plan 4096 (Seq ∷ Seq ∷ []) (1 ∷ 1 ∷ 1 ∷ 2 ∷ []) []))

loads_ahead : (is_far far_reads 1 8 4 ≡ true) × (is_far_within far_reads 1 8 7 ≡ true)
unfolding tree_opened
loads_ahead = (refl, refl)

-- the store stands behind the step, so it is one iteration ahead of the load
store_ahead : (is_far near_reads 1 5 3 ≡ false) × (is_far_within near_reads 1 5 3 ≡ true)
unfolding tree_opened
store_ahead = (refl, refl)

ahead_first_checked : map (is_checked far_reads ahead_first) (3 ∷ 4 ∷ 5 ∷ 6 ∷ 7 ∷ 8 ∷ 9 ∷ []) ≡ false ∷ true ∷ true ∷ true ∷ true ∷ false ∷ false ∷ []
unfolding tree_opened
ahead_first_checked = refl

ahead_second_checked : map (is_checked far_reads ahead_second) (3 ∷ 4 ∷ 5 ∷ 6 ∷ 7 ∷ 8 ∷ 9 ∷ []) ≡ false ∷ false ∷ false ∷ false ∷ false ∷ false ∷ false ∷ []
unfolding tree_opened
ahead_second_checked = refl

behind_second_checked : map (is_checked near_reads behind_second) (2 ∷ 3 ∷ 4 ∷ 5 ∷ []) ≡ false ∷ true ∷ false ∷ false ∷ []
unfolding tree_opened
behind_second_checked = refl

second_fit : (fits_plan far_reads ahead_second ≡ true) × (fits_plan near_reads behind_second ≡ true)
unfolding tree_opened
second_fit = (refl, refl)

ahead_again : (recovered far_reads ahead_first (source_run far_reads [] 10000) ≡ 0 ∷ 1 ∷ 2 ∷ 3 ∷ 4 ∷ 5 ∷ 6 ∷ 7 ∷ [])
    × (recovered far_reads ahead_second (source_run far_reads [] 10000) ≡ [])
unfolding tree_opened
ahead_again = (refl, refl)

ahead_memory : (begun_count (source_run far_reads [] 10000) 1 ≡ 9)
    × (memory_after (source_run far_reads [] 10000) 1 9 ≡ pos 1 ∷ pos 2 ∷ pos 3 ∷ pos 4 ∷ pos 5 ∷ pos 6 ∷ pos 7 ∷ pos 8 ∷ pos 0 ∷ pos 28 ∷ pos 8 ∷ [])
unfolding tree_opened
ahead_memory = (refl, refl)

behind_again : recovered near_reads behind_second (source_run near_reads [] 10000) ≡ 1 ∷ 3 ∷ []
unfolding tree_opened
behind_again = refl

behind_memory : (begun_count (source_run near_reads [] 10000) 1 ≡ 5) × (memory_after (source_run near_reads [] 10000) 1 5 ≡ pos 0 ∷ pos 7 ∷ pos 7 ∷ pos 7
    ∷ pos 7 ∷ pos 21 ∷ pos 4 ∷ [])
unfolding tree_opened
behind_memory = (refl, refl)

-- 4    int i = 0;
-- 6    while (i < 4) {
-- 7      s = s + a[i];
-- 8      a[i] = 7;
-- 9      i = i + 1;
abbrev in_text_order : Program
in_text_order = program
    (array 0 5 ∷ scalar 5 (pos 0) Global ∷ scalar 6 (pos 0) Outer ∷ [])
    (site 4 Assign 0 ∷ site 6 While 1 ∷ site 7 Assign 1 ∷ site 8 Assign 1 ∷ site 9 Assign 1 ∷ [])
    (one_region 6 2 5)
    (set 1 2 (num 0) ∷ region 1 2 (bin op.Lt (var 2) (num 4)) (set 3 1 (add (var 1) (at 0 (var 2))) ∷ set_at 4 0 (var 2) (num 7)
    ∷ set 5 2 (add (var 2) (num 1)) ∷ []) ∷ [])

-- the store before the load
abbrev against_text_order : Program
against_text_order = program
    (array 0 5 ∷ scalar 5 (pos 0) Global ∷ scalar 6 (pos 0) Outer ∷ [])
    (site 4 Assign 0 ∷ site 6 While 1 ∷ site 7 Assign 1 ∷ site 8 Assign 1 ∷ site 9 Assign 1 ∷ [])
    (one_region 6 2 5)
    (set 1 2 (num 0) ∷ region 1 2 (bin op.Lt (var 2) (num 4)) (set_at 3 0 (var 2) (num 7) ∷ set 4 1 (add (var 1) (at 0 (var 2)))
    ∷ set 5 2 (add (var 2) (num 1)) ∷ []) ∷ [])

-- 4    int i = 0;
-- 5    int j = 0;
-- 6    while (i < 4) {
-- 7      while (j < 2) {
-- 8        s = s + a[i];
-- 9        a[i] = 7;
-- 10       j = j + 1;
-- 11     i = i + 1;
abbrev in_one_loop : Program
in_one_loop = program
    (array 0 5 ∷ scalar 5 (pos 0) Global ∷ scalar 6 (pos 0) Outer ∷ scalar 7 (pos 0) Outer ∷ [])
    (site 4 Assign 0 ∷ site 5 Assign 0 ∷ site 6 While 1 ∷ site 7 While 1 ∷ site 8 Assign 1 ∷ site 9 Assign 1 ∷ site 10 Assign 1 ∷ site 11 Assign 1 ∷ [])
    (one_region 6 3 8)
    (set 1 2 (num 0) ∷ set 2 3 (num 0) ∷ region 1 3 (bin op.Lt (var 2) (num 4))
    (loop 4 (bin op.Lt (var 3) (num 2)) (set 5 1 (add (var 1) (at 0 (var 2))) ∷ set_at 6 0 (var 2) (num 7) ∷ set 7 3 (add (var 3) (num 1)) ∷ [])
    ∷ set 8 2 (add (var 2) (num 1)) ∷ []) ∷ [])

-- 6    while (i < 4) {
-- 7      a[i] = a[i] + 1;
-- 8      i = i + 1;
abbrev own_element : Program
own_element = program
    (array 0 5 ∷ scalar 5 (pos 0) Outer ∷ [])
    (site 4 Assign 0 ∷ site 6 While 1 ∷ site 7 Assign 1 ∷ site 8 Assign 1 ∷ [])
    (one_region 6 2 4)
    (set 1 1 (num 0) ∷ region 1 2 (bin op.Lt (var 1) (num 4)) (set_at 3 0 (var 1) (add (at 0 (var 1)) (num 1)) ∷ set 4 1 (add (var 1) (num 1)) ∷ []) ∷ [])

-- the store in stage 2, in version 2
abbrev store_late : Plan
store_late = proved (unchecked 4 (plan 4096 (Seq ∷ Seq ∷ []) (1 ∷ 1 ∷ 2 ∷ 1 ∷ []) []))

abbrev store_early : Plan
store_early = proved (unchecked 4 (plan 4096 (Seq ∷ Seq ∷ []) (1 ∷ 2 ∷ 1 ∷ 1 ∷ []) []))

abbrev store_in_loop : Plan
store_in_loop = proved (unchecked 6 (plan 4096 (Seq ∷ Seq ∷ []) (1 ∷ 1 ∷ 1 ∷ 2 ∷ 1 ∷ 1 ∷ []) []))

-- the element's site in a replicated stage, in version 1 and in version 2
abbrev element_first : Plan
element_first = unchecked 3 (plan 4096 (Seq ∷ Par ∷ []) (1 ∷ 2 ∷ 1 ∷ []) [])

abbrev element_second : Plan
element_second = proved (unchecked 3 (plan 4096 (Seq ∷ Par ∷ []) (1 ∷ 2 ∷ 1 ∷ []) []))

-- a load before the store of the same element needs no check, one behind it or in a loop with it does
order_checked : (map (is_checked in_text_order store_late) (2 ∷ 3 ∷ 4 ∷ 5 ∷ []) ≡ false ∷ false ∷ false ∷ false ∷ [])
    × (is_far_within in_text_order 1 4 3 ≡ false)
unfolding tree_opened
order_checked = (refl, refl)

against_checked : map (is_checked against_text_order store_early) (2 ∷ 3 ∷ 4 ∷ 5 ∷ []) ≡ false ∷ false ∷ true ∷ false ∷ []
unfolding tree_opened
against_checked = refl

loop_checked : map (is_checked in_one_loop store_in_loop) (3 ∷ 4 ∷ 5 ∷ 6 ∷ 7 ∷ 8 ∷ []) ≡ false ∷ false ∷ true ∷ false ∷ false ∷ false ∷ []
unfolding tree_opened
loop_checked = refl

element_checked : (map (is_checked own_element element_first) (2 ∷ 3 ∷ 4 ∷ []) ≡ false ∷ true ∷ false ∷ [])
    × (map (is_checked own_element element_second) (2 ∷ 3 ∷ 4 ∷ []) ≡ false ∷ false ∷ false ∷ [])
unfolding tree_opened
element_checked = (refl, refl)

order_again : (recovered in_text_order store_late (source_run in_text_order [] 10000) ≡ []) × (is_far in_text_order 1 4 3 ≡ true)
unfolding tree_opened
order_again = (refl, refl)

-- 6    while (i < 4) {
-- 7      s = s + a[i];
-- 8      a[i] = 7;
-- 9      i = i + 1;
-- 10     i = i + 1;
abbrev moved_twice : Program
moved_twice = program
    (array 0 5 ∷ scalar 5 (pos 0) Global ∷ scalar 6 (pos 0) Outer ∷ [])
    (site 4 Assign 0 ∷ site 6 While 1 ∷ site 7 Assign 1 ∷ site 8 Assign 1 ∷ site 9 Assign 1 ∷ site 10 Assign 1 ∷ [])
    (one_region 6 2 6)
    (set 1 2 (num 0) ∷ region 1 2 (bin op.Lt (var 2) (num 4)) (set 3 1 (add (var 1) (at 0 (var 2))) ∷ set_at 4 0 (var 2) (num 7) ∷ set 5 2 (add (var 2) (num 1))
    ∷ set 6 2 (add (var 2) (num 1)) ∷ []) ∷ [])

-- 6    while (s < 40) {
-- 7      int v;
-- 8      v = v + 1;
-- 9      s = s + a[v] + 1;
-- 10     a[v] = 7;
abbrev local_moves : Program
local_moves = program
    (array 0 5 ∷ scalar 5 (pos 0) Global ∷ scalar 6 (pos 0) (Body 1) ∷ [])
    (site 6 While 1 ∷ site 8 Assign 1 ∷ site 9 Assign 1 ∷ site 10 Assign 1 ∷ [])
    (one_region 6 1 4)
    (region 1 1 (bin op.Lt (var 1) (num 40)) (set 2 2 (add (var 2) (num 1)) ∷ set 3 1 (add (add (var 1) (at 0 (var 2))) (num 1))
    ∷ set_at 4 0 (var 2) (num 7) ∷ []) ∷ [])

-- two sites store the variable
twice_near : is_far moved_twice 1 4 3 ≡ false
unfolding tree_opened
twice_near = refl

-- a body local starts each iteration from 0
local_near : is_far local_moves 1 4 3 ≡ false
unfolding tree_opened
local_near = refl
