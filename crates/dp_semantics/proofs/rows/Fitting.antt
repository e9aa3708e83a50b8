-- The test programs with their plans pass the test that the central theorem asks, and spoiled plans don't.
use Rattle.std.proofs.Common.{◌≡◌, refl, ℕ, true, false, [], ◌∷◌}
use Rattle.dp_tree.proofs.Build.{tree_opened}
use Rattle.dp_tree.proofs.Programs.{sum_loop, closed_at_once, zero_divisor, stale_read, same_value_store, skip_negative, histogram, two_stores, stale_step}
use Rattle.dp_tree.proofs.Programs.{stale_divisor}
use Rattle.dp_plan.specs.declared.StageKind.TheVariants.{Seq, Par}
use Rattle.dp_plan.proofs.Plans.{proved, plan, sum_loop_one_stage, zero_divisor_plan, stale_read_plan, skip_negative_plan, histogram_plan, two_stores_plan}
use Rattle.dp_plan.proofs.Plans.{stale_step_plan, stale_divisor_plan}
use Rattle.dp_plan.specs.CheckedTable.{checked_table}
use Rattle.dp_semantics.specs.OneStage.{one_stage_plan}
use Rattle.dp_semantics.specs.Fits.{fits_plan}

one_stage_fits : (fits_plan sum_loop (one_stage_plan sum_loop 1) ≡ true) × (fits_plan closed_at_once (one_stage_plan closed_at_once 1) ≡ true)
unfolding tree_opened
one_stage_fits = (refl, refl)

one_stage_written_out : (one_stage_plan sum_loop 1 ≡ proved sum_loop_one_stage)
    × (checked_table sum_loop (one_stage_plan sum_loop 1) ≡ (one_stage_plan sum_loop 1).checked_at)
unfolding tree_opened
one_stage_written_out = (refl, refl)

stale_read_fits : (fits_plan stale_read stale_read_plan ≡ true) × (fits_plan same_value_store stale_read_plan ≡ true)
    × (fits_plan stale_divisor stale_divisor_plan ≡ true)
unfolding tree_opened
stale_read_fits = (refl, refl, refl)

skip_negative_fits : (fits_plan skip_negative skip_negative_plan ≡ true) × (fits_plan zero_divisor zero_divisor_plan ≡ true)
unfolding tree_opened
skip_negative_fits = (refl, refl)

histogram_fits : (fits_plan histogram histogram_plan ≡ true) × (fits_plan two_stores two_stores_plan ≡ true)
unfolding tree_opened
histogram_fits = (refl, refl)

stale_step_fits : (words : ℕ) → fits_plan stale_step (stale_step_plan words) ≡ true
unfolding tree_opened
stale_step_fits words = refl

-- an `if` of a later stage that isn't assumed
unassumed : fits_plan skip_negative (plan 4096 (Seq ∷ Seq ∷ []) (1 ∷ 2 ∷ 2 ∷ 1 ∷ 1 ∷ 2 ∷ []) []) ≡ false
unfolding tree_opened
unassumed = refl

-- an inner `while` of a later stage than its body
late_while : fits_plan stale_step (plan 64 (Seq ∷ Seq ∷ []) (1 ∷ 1 ∷ 2 ∷ 1 ∷ 2 ∷ 2 ∷ 1 ∷ []) []) ≡ false
unfolding tree_opened
late_while = refl

replicated : (fits_plan histogram (plan 4096 (Par ∷ Seq ∷ Seq ∷ []) (1 ∷ 1 ∷ 1 ∷ 2 ∷ 3 ∷ []) []) ≡ false)
    × (fits_plan histogram (plan 4096 (Seq ∷ Par ∷ Par ∷ []) (1 ∷ 1 ∷ 1 ∷ 2 ∷ 3 ∷ []) []) ≡ false)
unfolding tree_opened
replicated = (refl, refl)

late_condition : fits_plan stale_read (plan 4096 (Seq ∷ Seq ∷ []) (2 ∷ 1 ∷ 1 ∷ 2 ∷ []) []) ≡ false
unfolding tree_opened
late_condition = refl

-- a site without a stage, and one with a stage too high
unlisted : (fits_plan stale_read (plan 4096 (Seq ∷ Seq ∷ []) (1 ∷ 1 ∷ 1 ∷ []) []) ≡ false)
    × (fits_plan stale_read (plan 4096 (Seq ∷ []) (1 ∷ 1 ∷ 1 ∷ 2 ∷ []) []) ≡ false)
unfolding tree_opened
unlisted = (refl, refl)
