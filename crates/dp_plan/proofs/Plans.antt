-- Plans of the test programs, as they are written and as they are kept.
use Rattle.std.proofs.Common.{ℕ, Bool, true, false, List, [], ◌∷◌, replicate}
use Rattle.dp_tree.specs.declared.Assume.{Assume}
use Rattle.dp_plan.specs.declared.StageKind.{StageKind}
use Rattle.dp_plan.specs.declared.StageKind.TheVariants.{Seq, Par}
use Rattle.dp_plan.specs.declared.Plan.{Plan}
use Rattle.dp_plan.specs.Written.{WrittenStage, WrittenPlan}
use Rattle.dp_tree.proofs.Build.{assume}

-- a plan of region 1, by W, the stages' kinds, the stage of each site, and the assumptions
abbrev pub plan : ℕ → List StageKind → List ℕ → List Assume → Plan
plan words stages stage_of assumed =
    record { region = 1; words = words; stages = stages; stage_of = stage_of; assume = assumed; proved = false; checked_at = [] }

-- the plan in version 2
abbrev pub proved : Plan → Plan
proved p = record p { proved = true }

-- the plan with this table of its checked sites
abbrev pub tabled : List Bool → Plan → Plan
tabled table p = record p { checked_at = table }

-- the plan with a table that says no of so many sites
abbrev pub unchecked : ℕ → Plan → Plan
unchecked n p = tabled (replicate n false) p

-- the lines `seq SITES` and `par SITES`
abbrev pub seq : List ℕ → WrittenStage
seq sites = record { kind = Seq; sites = sites }

abbrev pub par : List ℕ → WrittenStage
par sites = record { kind = Par; sites = sites }

-- the written plan of region 1, by W, its stage lines and its assumptions
abbrev pub written : ℕ → List WrittenStage → List Assume → WrittenPlan
written words stages assumed = record { region = 1; words = words; stages = stages; assume = assumed }

-- all sites in one stage
abbrev pub sum_loop_one_stage : Plan
sum_loop_one_stage = unchecked 4 (plan 4096 (Seq ∷ []) (1 ∷ 1 ∷ 1 ∷ 1 ∷ []) [])

abbrev pub zero_divisor_written : WrittenPlan
zero_divisor_written = written 4096 (seq (2 ∷ 4 ∷ []) ∷ seq (3 ∷ []) ∷ []) []

-- the division in stage 2
abbrev pub zero_divisor_plan : Plan
zero_divisor_plan = unchecked 3 (plan 4096 (Seq ∷ Seq ∷ []) (1 ∷ 2 ∷ 1 ∷ []) [])

abbrev pub stale_read_written : WrittenPlan
stale_read_written = written 4096 (seq (2 ∷ 3 ∷ 4 ∷ []) ∷ seq (5 ∷ []) ∷ []) []

-- the array's store in stage 2
abbrev pub stale_read_plan : Plan
stale_read_plan = tabled (false ∷ true ∷ false ∷ false ∷ []) (plan 4096 (Seq ∷ Seq ∷ []) (1 ∷ 1 ∷ 1 ∷ 2 ∷ []) [])

abbrev pub skip_negative_written : WrittenPlan
skip_negative_written = written 4096 (seq (2 ∷ 5 ∷ 6 ∷ []) ∷ seq (3 ∷ 4 ∷ 7 ∷ []) ∷ []) (assume 4 false ∷ [])

-- the `if` in stage 2, its body in stage 1
abbrev pub skip_negative_plan : Plan
skip_negative_plan = unchecked 6 (plan 4096 (Seq ∷ Seq ∷ []) (1 ∷ 2 ∷ 2 ∷ 1 ∷ 1 ∷ 2 ∷ []) (assume 4 false ∷ []))

abbrev pub histogram_written : WrittenPlan
histogram_written = written 4096 (seq (2 ∷ 3 ∷ 4 ∷ []) ∷ par (5 ∷ []) ∷ seq (6 ∷ []) ∷ []) []

-- the middle stage replicated
abbrev pub histogram_plan : Plan
histogram_plan = unchecked 5 (plan 4096 (Seq ∷ Par ∷ Seq ∷ []) (1 ∷ 1 ∷ 1 ∷ 2 ∷ 3 ∷ []) [])

abbrev pub two_stores_written : WrittenPlan
two_stores_written = written 4096 (seq (2 ∷ 4 ∷ 5 ∷ []) ∷ seq (3 ∷ []) ∷ []) []

-- the first store in stage 2, the second one in stage 1
abbrev pub two_stores_plan : Plan
two_stores_plan = unchecked 4 (plan 4096 (Seq ∷ Seq ∷ []) (1 ∷ 2 ∷ 1 ∷ 1 ∷ []) [])

abbrev pub stale_step_written : ℕ → WrittenPlan
stale_step_written words = written words (seq (2 ∷ 3 ∷ 4 ∷ 5 ∷ 8 ∷ []) ∷ seq (6 ∷ 7 ∷ []) ∷ []) []

-- the inner loop in stage 1, the step's store in stage 2
abbrev pub stale_step_plan : ℕ → Plan
stale_step_plan words = tabled (false ∷ false ∷ false ∷ true ∷ false ∷ false ∷ false ∷ []) (plan words (Seq ∷ Seq ∷ []) (1 ∷ 1 ∷ 1 ∷ 1 ∷ 2 ∷ 2 ∷ 1 ∷ []) [])

abbrev pub stale_divisor_written : WrittenPlan
stale_divisor_written = written 4096 (seq (2 ∷ 3 ∷ 4 ∷ 6 ∷ []) ∷ seq (5 ∷ []) ∷ []) []

-- the division in stage 1, the divisor's store in stage 2
abbrev pub stale_divisor_plan : Plan
stale_divisor_plan = tabled (false ∷ false ∷ true ∷ false ∷ false ∷ []) (plan 4096 (Seq ∷ Seq ∷ []) (1 ∷ 1 ∷ 1 ∷ 2 ∷ 1 ∷ []) [])

abbrev pub word_table_written : WrittenPlan
word_table_written = written 4096
    (seq (2 ∷ 3 ∷ 4 ∷ []) ∷ par (5 ∷ 6 ∷ 7 ∷ 8 ∷ 9 ∷ []) ∷ seq (10 ∷ 11 ∷ 12 ∷ 13 ∷ 14 ∷ 15 ∷ 16 ∷ 17 ∷ 18 ∷ 19 ∷ []) ∷ []) []

-- the rounds of mixing in a replicated stage
abbrev pub word_table_plan : Plan
word_table_plan = unchecked 18 (plan 4096 (Seq ∷ Par ∷ Seq ∷ [])
    (1 ∷ 1 ∷ 1 ∷ 2 ∷ 2 ∷ 2 ∷ 2 ∷ 2 ∷ 3 ∷ 3 ∷ 3 ∷ 3 ∷ 3 ∷ 3 ∷ 3 ∷ 3 ∷ 3 ∷ 3 ∷ []) [])
