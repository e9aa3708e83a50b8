-- The iterations that are executed again, computed.
use Rattle.std.proofs.Common.{◌≡◌, refl, ℕ, List, [], ◌∷◌, ℤ, pos, negsuc}
use Rattle.dp_tree.specs.declared.Program.{Program}
use Rattle.dp_tree.proofs.Build.{tree_opened}
use Rattle.dp_tree.proofs.Programs.{sum_loop, zero_divisor, stale_read, same_value_store, skip_negative, histogram, two_stores, stale_step, stale_divisor}
use Rattle.dp_plan.specs.declared.Plan.{Plan}
use Rattle.dp_plan.specs.declared.StageKind.TheVariants.{Seq, Par}
use Rattle.dp_plan.proofs.Plans.{plan, zero_divisor_plan, stale_read_plan, skip_negative_plan, histogram_plan, two_stores_plan, stale_step_plan}
use Rattle.dp_plan.proofs.Plans.{stale_divisor_plan}
use Rattle.dp_semantics.specs.Recovery.{recovered}
use Rattle.dp_semantics.specs.OneStage.{one_stage_plan}
use Rattle.dp_semantics.specs.Verdict.{source_run}

abbrev recovered_in : Program → Plan → List ℤ → ℕ → List ℕ
recovered_in p plan input fuel = recovered p plan (source_run p input fuel)

-- In one stage only an iteration that the fuel cuts is executed again.
one_stage_whole : recovered_in sum_loop (one_stage_plan sum_loop 1) [] 10000 ≡ []
unfolding tree_opened
one_stage_whole = refl

fuel : (recovered_in sum_loop (one_stage_plan sum_loop 1) [] 9 ≡ []) × (recovered_in sum_loop (one_stage_plan sum_loop 1) [] 10 ≡ 2 ∷ [])
    × (recovered_in sum_loop (one_stage_plan sum_loop 1) [] 13 ≡ [])
unfolding tree_opened
fuel = (refl, refl, refl)

-- the source divides by 0 in iteration 3
fault : recovered_in zero_divisor zero_divisor_plan [] 10000 ≡ 3 ∷ []
unfolding tree_opened
fault = refl

-- stage 1 reads what stage 2 stored two iterations before in the same epoch
stale_reads : recovered_in stale_read stale_read_plan [] 10000 ≡ 2 ∷ 5 ∷ []
unfolding tree_opened
stale_reads = refl

-- only values count: the stored value is the old one
same_values : recovered_in same_value_store stale_read_plan [] 10000 ≡ []
unfolding tree_opened
same_values = refl

assumed_broken_once : recovered_in skip_negative skip_negative_plan (pos 5 ∷ negsuc 0 ∷ pos 7 ∷ pos 8 ∷ []) 10000 ≡ 1 ∷ []
unfolding tree_opened
assumed_broken_once = refl

assumed_broken_first : (recovered_in skip_negative skip_negative_plan (negsuc 0 ∷ pos 5 ∷ pos 3 ∷ []) 10000 ≡ 0 ∷ [])
    × (recovered_in skip_negative skip_negative_plan (negsuc 9223372036854775807 ∷ []) 10000 ≡ 0 ∷ [])
unfolding tree_opened
assumed_broken_first = (refl, refl)

assumed_broken_twice : recovered_in skip_negative skip_negative_plan (negsuc 0 ∷ negsuc 0 ∷ negsuc 0 ∷ negsuc 0 ∷ []) 10000 ≡ 0 ∷ 1 ∷ []
unfolding tree_opened
assumed_broken_twice = refl

-- a middle stage that is replicated
replicated : recovered_in histogram histogram_plan (pos 0 ∷ pos 1 ∷ pos 2 ∷ pos 3 ∷ pos 4 ∷ pos 5 ∷ pos 6 ∷ []) 10000 ≡ []
unfolding tree_opened
replicated = refl

-- a replicated stage doesn't see its other turns: iterations 1 and 3 load the element that the one before counted
replicated_counts : recovered_in histogram (plan 4096 (Seq ∷ Par ∷ []) (1 ∷ 1 ∷ 1 ∷ 2 ∷ 2 ∷ []) []) (pos 0 ∷ pos 4 ∷ pos 8 ∷ pos 12 ∷ []) 10000 ≡ 1 ∷ 3 ∷ []
unfolding tree_opened
replicated_counts = refl

-- both stages store one element, stage 2 first in the source's order
stores_in_source_order : recovered_in two_stores two_stores_plan [] 10000 ≡ []
unfolding tree_opened
stores_in_source_order = refl

-- an inner loop that never ends on a stale step, and words that are just enough, or one too few
stale_loop : recovered_in stale_step (stale_step_plan 64) [] 10000 ≡ 1 ∷ []
unfolding tree_opened
stale_loop = refl

words : (recovered_in stale_step (stale_step_plan 20) [] 10000 ≡ 1 ∷ []) × (recovered_in stale_step (stale_step_plan 19) [] 10000 ≡ 1 ∷ 2 ∷ [])
unfolding tree_opened
words = (refl, refl)

-- stage 1 divides by a stale 0 where the source doesn't
stale_division : recovered_in stale_divisor stale_divisor_plan [] 10000 ≡ 1 ∷ []
unfolding tree_opened
stale_division = refl
