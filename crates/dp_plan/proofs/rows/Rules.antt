-- The nine rules on plans of the test programs: valid ones with the plans that they stand for, and each rule broken.
use Rattle.std.proofs.Common.{◌≡◌, refl, ℕ, ◌+◌, true, false, [], ◌∷◌, pos, Option, Some, None}
use Rattle.dp_base.specs.declared.BinOp.TheVariants as op
use Rattle.dp_tree.specs.declared.VarScope.TheVariants.{Global}
use Rattle.dp_tree.specs.declared.Expr.{Expr}
use Rattle.dp_tree.specs.declared.Stmt.{Stmt}
use Rattle.dp_tree.specs.declared.Program.{Program}
use Rattle.dp_plan.specs.declared.Plan.{Plan}
use Rattle.dp_plan.specs.Written.{WrittenPlan, plan_of, written_of}
use Rattle.dp_plan.specs.Valid.{BrokenRule, first_broken, first_fault}
use Rattle.dp_tree.proofs.Build.{num, var, bin, set, when, loop, region, scalar, program, assume, tree_opened}
use Rattle.dp_tree.proofs.Programs.{sum_loop, zero_divisor, stale_read, same_value_store, skip_negative, histogram, two_stores, stale_step, stale_divisor}
use Rattle.dp_tree.proofs.Programs.{word_table_expanded}
use Rattle.dp_plan.proofs.Plans.{seq, par, written, zero_divisor_written, zero_divisor_plan, stale_read_written, stale_read_plan, skip_negative_written}
use Rattle.dp_plan.proofs.Plans.{skip_negative_plan, histogram_written, histogram_plan, two_stores_written, two_stores_plan, stale_step_written}
use Rattle.dp_plan.proofs.Plans.{stale_step_plan, stale_divisor_written, stale_divisor_plan, word_table_written, word_table_plan}

-- the written plan is valid, stands for the plan, and is how that is written
record Stands (p : Program) (w : WrittenPlan) (plan : Plan) : Type 0 where
  valid : first_broken p w ≡ None
  for : plan_of p plan.proved w ≡ plan
  written : written_of p plan ≡ w

zero_divisor_stands : Stands zero_divisor zero_divisor_written zero_divisor_plan
unfolding tree_opened
zero_divisor_stands = record { valid = refl; for = refl; written = refl }

stale_read_stands : Stands stale_read stale_read_written stale_read_plan
unfolding tree_opened
stale_read_stands = record { valid = refl; for = refl; written = refl }

same_value_store_stands : Stands same_value_store stale_read_written stale_read_plan
unfolding tree_opened
same_value_store_stands = record { valid = refl; for = refl; written = refl }

skip_negative_stands : Stands skip_negative skip_negative_written skip_negative_plan
unfolding tree_opened
skip_negative_stands = record { valid = refl; for = refl; written = refl }

histogram_stands : Stands histogram histogram_written histogram_plan
unfolding tree_opened
histogram_stands = record { valid = refl; for = refl; written = refl }

two_stores_stands : Stands two_stores two_stores_written two_stores_plan
unfolding tree_opened
two_stores_stands = record { valid = refl; for = refl; written = refl }

stale_step_stands : (words : ℕ) → Stands stale_step (stale_step_written words) (stale_step_plan words)
unfolding tree_opened
stale_step_stands words = record { valid = refl; for = refl; written = refl }

stale_divisor_stands : Stands stale_divisor stale_divisor_written stale_divisor_plan
unfolding tree_opened
stale_divisor_stands = record { valid = refl; for = refl; written = refl }

word_table_stands : Stands word_table_expanded word_table_written word_table_plan
unfolding tree_opened
word_table_stands = record { valid = refl; for = refl; written = refl }

abbrev broken : ℕ → ℕ → Option BrokenRule
broken rule site = Some (record { rule = rule; site = site })

-- without the line `seq 6`
site_not_listed : first_broken histogram (written 4096 (seq (2 ∷ 3 ∷ 4 ∷ []) ∷ par (5 ∷ []) ∷ []) []) ≡ broken 1 6
unfolding tree_opened
site_not_listed = refl

-- the least of the missing sites
least_not_listed : first_broken histogram (written 4096 (seq (2 ∷ 4 ∷ []) ∷ par (5 ∷ []) ∷ []) []) ≡ broken 1 3
unfolding tree_opened
least_not_listed = refl

site_listed_twice : first_broken histogram (written 4096 (seq (2 ∷ 3 ∷ 4 ∷ 5 ∷ []) ∷ par (5 ∷ []) ∷ seq (6 ∷ []) ∷ []) []) ≡ broken 2 5
unfolding tree_opened
site_listed_twice = refl

-- a foreign site that is listed twice breaks rule 2 before rule 3
foreign_listed_twice : first_broken histogram (written 4096 (seq (2 ∷ 3 ∷ 4 ∷ 9 ∷ []) ∷ par (5 ∷ 9 ∷ []) ∷ seq (6 ∷ []) ∷ []) []) ≡ broken 2 9
unfolding tree_opened
foreign_listed_twice = refl

foreign_listed : first_broken histogram (written 4096 (seq (1 ∷ 2 ∷ 3 ∷ 4 ∷ []) ∷ par (5 ∷ 9 ∷ []) ∷ seq (6 ∷ []) ∷ []) []) ≡ broken 3 1
unfolding tree_opened
foreign_listed = refl

condition_in_stage_two : first_broken histogram (written 4096 (seq (3 ∷ 4 ∷ []) ∷ seq (2 ∷ 5 ∷ 6 ∷ []) ∷ []) []) ≡ broken 4 2
unfolding tree_opened
condition_in_stage_two = refl

stage_one_replicated : first_broken histogram (written 4096 (par (2 ∷ 3 ∷ 4 ∷ []) ∷ seq (5 ∷ 6 ∷ []) ∷ []) []) ≡ broken 5 2
unfolding tree_opened
stage_one_replicated = refl

-- `par 6` in place of `seq 6`
neighbours_both_replicated : first_broken histogram (written 4096 (seq (2 ∷ 3 ∷ 4 ∷ []) ∷ par (5 ∷ []) ∷ par (6 ∷ []) ∷ []) []) ≡ broken 6 6
unfolding tree_opened
neighbours_both_replicated = refl

-- the later stage of the first of two pairs, by its least site
first_pair_of_neighbours : first_broken histogram (written 4096 (seq (2 ∷ []) ∷ par (5 ∷ []) ∷ par (4 ∷ 6 ∷ []) ∷ par (3 ∷ []) ∷ []) []) ≡ broken 6 4
unfolding tree_opened
first_pair_of_neighbours = refl

inner_while_later : first_broken stale_step (written 64 (seq (2 ∷ 3 ∷ 5 ∷ 6 ∷ 7 ∷ 8 ∷ []) ∷ seq (4 ∷ []) ∷ []) []) ≡ broken 7 4
unfolding tree_opened
inner_while_later = refl

if_not_assumed : first_broken skip_negative (written 4096 (seq (2 ∷ 5 ∷ 6 ∷ []) ∷ seq (3 ∷ 4 ∷ 7 ∷ []) ∷ []) []) ≡ broken 8 4
unfolding tree_opened
if_not_assumed = refl

-- an assumption that is repeated satisfies rule 8 and breaks rule 9
assumed_twice : first_broken skip_negative (written 4096 (seq (2 ∷ 5 ∷ 6 ∷ []) ∷ seq (3 ∷ 4 ∷ 7 ∷ []) ∷ []) (assume 4 false ∷ assume 4 true ∷ [])) ≡ broken 9 4
unfolding tree_opened
assumed_twice = refl

assumed_no_if : first_broken skip_negative (written 4096 (seq (2 ∷ 5 ∷ 6 ∷ []) ∷ seq (3 ∷ 4 ∷ 7 ∷ []) ∷ []) (assume 4 false ∷ assume 2 true ∷ [])) ≡ broken 9 2
unfolding tree_opened
assumed_no_if = refl

assumed_outside : first_broken sum_loop (written 4096 (seq (2 ∷ 3 ∷ 4 ∷ 5 ∷ []) ∷ []) (assume 9 false ∷ [])) ≡ broken 9 9
unfolding tree_opened
assumed_outside = refl

abbrev below_one : Expr
below_one = bin op.Lt (var 0) (num 1)

-- `while (i < 1) { if (i < 1) { while (i < 1) { i = 1; } } }` twice, as regions 1 and 2
abbrev nested : ℕ → ℕ → Stmt
nested r first = region r first below_one (when (first + 1) below_one (loop (first + 2) below_one (set (first + 3) 0 (num 1) ∷ []) ∷ []) ∷ [])

abbrev two_regions : Program
two_regions = program (scalar 0 (pos 0) Global ∷ []) [] [] (nested 1 1 ∷ nested 2 5 ∷ [])

-- rule 8 sees sites at any depth
deep_site_earlier : first_broken two_regions (written 4096 (seq (1 ∷ 3 ∷ 4 ∷ []) ∷ seq (2 ∷ []) ∷ []) []) ≡ broken 8 2
unfolding tree_opened
deep_site_earlier = refl

abbrev in_region : ℕ → WrittenPlan → WrittenPlan
in_region r w = record w { region = r }

-- regions are tested one after the other: rule 9 of region 1 comes before rule 1 of region 2
first_region_first : first_fault two_regions (written 4096 (seq (1 ∷ 2 ∷ 3 ∷ 4 ∷ []) ∷ []) (assume 3 true ∷ [])
    ∷ in_region 2 (written 4096 (seq (5 ∷ []) ∷ []) []) ∷ []) ≡ broken 9 3
unfolding tree_opened
first_region_first = refl

second_region_second : first_fault two_regions (written 4096 (seq (1 ∷ 2 ∷ 3 ∷ 4 ∷ []) ∷ []) []
    ∷ in_region 2 (written 4096 (seq (5 ∷ 7 ∷ 8 ∷ []) ∷ []) []) ∷ []) ≡ broken 1 6
unfolding tree_opened
second_region_second = refl
