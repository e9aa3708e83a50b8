-- The causes of re-execution, computed.
use Rattle.std.proofs.Common.{◌≡◌, refl, ℕ, false, List, [], ◌∷◌, ℤ, pos, negsuc}
use Rattle.dp_base.specs.declared.BinOp.TheVariants as op
use Rattle.dp_base.specs.declared.FaultKind.TheVariants.{Divide}
use Rattle.dp_tree.specs.declared.SiteKind.TheVariants.{Assign, If, While}
use Rattle.dp_tree.specs.declared.VarScope.TheVariants.{Global, Outer}
use Rattle.dp_tree.specs.declared.Program.{Program}
use Rattle.dp_tree.proofs.Build.{assume, bin, num, one_region, program, region, scalar, set, site, tree_opened, var, when}
use Rattle.dp_tree.proofs.Programs.{add, sum_loop, zero_divisor, stale_read, skip_negative, stale_step, stale_divisor}
use Rattle.dp_plan.specs.declared.Plan.{Plan}
use Rattle.dp_plan.specs.declared.StageKind.TheVariants.{Seq}
use Rattle.dp_plan.proofs.Plans.{plan, zero_divisor_plan, stale_read_plan, skip_negative_plan, stale_step_plan, stale_divisor_plan}
use Rattle.dp_semantics.specs.Cause.{Cause, ByLoad, ByAssumption, ByWords, ByFault, ByFuel, cause, cause_since}
use Rattle.dp_semantics.specs.OneStage.{one_stage_plan}
use Rattle.dp_semantics.specs.Verdict.{source_run}

abbrev cause_in : Program → Plan → List ℤ → ℕ → ℕ → Cause
cause_in p plan input fuel i = cause p plan (source_run p input fuel) i

stale_read_first : cause_in stale_read stale_read_plan [] 10000 2 ≡ ByLoad 3 2 (pos 0) (pos 1)
unfolding tree_opened
stale_read_first = refl

-- in the epoch from 3 the base has what was stored before
stale_read_second : cause_in stale_read stale_read_plan [] 10000 5 ≡ ByLoad 3 5 (pos 0) (pos 4)
unfolding tree_opened
stale_read_second = refl

broken_assumption : cause_in skip_negative skip_negative_plan (pos 5 ∷ negsuc 0 ∷ pos 7 ∷ pos 8 ∷ []) 10000 1 ≡ ByAssumption 4
unfolding tree_opened
broken_assumption = refl

-- a stale load comes before the words that follow it
too_many_words : (cause_in stale_step (stale_step_plan 19) [] 10000 1 ≡ ByLoad 5 0 (pos 0) (pos 2))
    × (cause_in stale_step (stale_step_plan 19) [] 10000 2 ≡ ByWords 1 8)
unfolding tree_opened
too_many_words = (refl, refl)

faults : (cause_in zero_divisor zero_divisor_plan [] 10000 3 ≡ ByFault (record { kind = Divide; line = 6 }))
    × (cause_in sum_loop (one_stage_plan sum_loop 1) [] 10 2 ≡ ByFuel)
unfolding tree_opened
faults = (refl, refl)

-- stage 1 faults on a stale 0; the cause is the load in the source
stale_division : cause_in stale_divisor stale_divisor_plan [] 10000 1 ≡ ByLoad 4 0 (pos 0) (pos 2)
unfolding tree_opened
stale_division = refl

-- the second word of stage 2 comes before that of stage 1
words_of_the_second_stage : cause_in sum_loop (plan 1 (Seq ∷ Seq ∷ []) (1 ∷ 2 ∷ 2 ∷ 1 ∷ []) []) [] 10000 0 ≡ ByWords 2 4
unfolding tree_opened
words_of_the_second_stage = refl

-- 1  int s;
-- 2  int u;
-- 4    int i = 0;
-- 5    #pragma dswp
-- 6    while (i < 2) {
-- 7      if (s + u) { }
-- 8      s = 2;
-- 9      u = 3;
-- 10     i = i + 1;
abbrev failing_twice : Program
failing_twice = program
    (scalar 0 (pos 0) Global ∷ scalar 1 (pos 0) Global ∷ scalar 2 (pos 0) Outer ∷ [])
    (site 4 Assign 0 ∷ site 6 While 1 ∷ site 7 If 1 ∷ site 8 Assign 1 ∷ site 9 Assign 1 ∷ site 10 Assign 1 ∷ [])
    (one_region 6 2 6)
    (set 1 2 (num 0) ∷ region 1 2 (bin op.Lt (var 2) (num 2))
    (when 3 (add (var 0) (var 1)) [] ∷ set 4 0 (num 2) ∷ set 5 1 (num 3) ∷ set 6 2 (add (var 2) (num 1)) ∷ []) ∷ [])

-- the stores of `s` and `u` in stage 2, the `if` assumed not to be taken, and three words, where the condition and the `if` have four
abbrev failing_twice_plan : Plan
failing_twice_plan = plan 3 (Seq ∷ Seq ∷ []) (1 ∷ 1 ∷ 2 ∷ 2 ∷ 1 ∷ []) (assume 3 false ∷ [])

words_alone : cause_in failing_twice failing_twice_plan [] 10000 0 ≡ ByWords 1 3
unfolding tree_opened
words_alone = refl

-- iteration 1 takes the `if`, and has too many words as well
assumption_before_words : cause_in failing_twice failing_twice_plan [] 10000 1 ≡ ByAssumption 3
unfolding tree_opened
assumption_before_words = refl

-- in the epoch from 0 both its loads are stale, too: the first one counts
first_load_before_all : cause_since failing_twice failing_twice_plan (source_run failing_twice [] 10000) 0 1 ≡ ByLoad 3 0 (pos 0) (pos 2)
unfolding tree_opened
first_load_before_all = refl
