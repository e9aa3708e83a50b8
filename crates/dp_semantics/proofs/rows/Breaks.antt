-- A region with an early exit: its iterations, its memory, which are executed again, and what is judged, computed.
use Rattle.std.proofs.Common.{◌≡◌, refl, true, List, [], ◌∷◌, ℤ, pos, negsuc}
use Rattle.dp_base.specs.declared.End.TheVariants.{Done, Fuel}
use Rattle.dp_tree.specs.Step.{Stored, Decided, Tried}
use Rattle.dp_tree.specs.Iteration.{begun_count, is_closing, memory_after}
use Rattle.dp_tree.proofs.Build.{tree_opened}
use Rattle.dp_tree.proofs.RegionPrograms.{early_exit}
use Rattle.dp_plan.specs.declared.Plan.{Plan}
use Rattle.dp_plan.specs.declared.StageKind.TheVariants.{Seq}
use Rattle.dp_plan.proofs.Plans.{plan}
use Rattle.dp_semantics.specs.Cause.{ByAssumption, cause}
use Rattle.dp_semantics.specs.Judge.{Clean, Unclean}
use Rattle.dp_semantics.specs.Recovery.{recovered}
use Rattle.dp_semantics.specs.Fits.{fits_plan}
use Rattle.dp_semantics.specs.Verdict.{source_run, judgement_at}

-- the break in stage 2, where it is assumed not to be taken, and in stage 1
abbrev late_break : Plan
late_break = plan 4096 (Seq ∷ Seq ∷ []) (1 ∷ 2 ∷ 2 ∷ 2 ∷ 1 ∷ []) []

abbrev early_break : Plan
early_break = plan 4096 (Seq ∷ Seq ∷ []) (1 ∷ 1 ∷ 1 ∷ 2 ∷ 1 ∷ []) []

abbrev negative : List ℤ
negative = pos 5 ∷ negsuc 0 ∷ pos 7 ∷ []

abbrev positive : List ℤ
positive = pos 5 ∷ pos 6 ∷ []

both_fit : (fits_plan early_exit late_break ≡ true) × (fits_plan early_exit early_break ≡ true)
unfolding tree_opened
both_fit = (refl, refl)

left_by_the_second : (begun_count (source_run early_exit negative 10000) 1 ≡ 2) × (is_closing (source_run early_exit negative 10000) 1 1 ≡ true)
unfolding tree_opened
left_by_the_second = (refl, refl)

-- where the region is left its body local reads 0, and `i` isn't stepped
memory_when_left : (memory_after (source_run early_exit negative 10000) 1 2 ≡ pos 5 ∷ pos 1 ∷ pos 0 ∷ []) × ((source_run early_exit negative 10000).end ≡ Done)
unfolding tree_opened
memory_when_left = (refl, refl)

late_again : (recovered early_exit late_break (source_run early_exit negative 10000) ≡ 1 ∷ [])
    × (cause early_exit late_break (source_run early_exit negative 10000) 1 ≡ ByAssumption 4)
unfolding tree_opened
late_again = (refl, refl)

early_never : recovered early_exit early_break (source_run early_exit negative 10000) ≡ []
unfolding tree_opened
early_never = refl

untaken : (recovered early_exit late_break (source_run early_exit positive 10000) ≡ [])
    × (recovered early_exit early_break (source_run early_exit positive 10000) ≡ [])
unfolding tree_opened
untaken = (refl, refl)

three_begun : begun_count (source_run early_exit positive 10000) 1 ≡ 3
unfolding tree_opened
three_begun = refl

-- the fuel ends before the break
cut_again : (recovered early_exit early_break (source_run early_exit negative 8) ≡ 1 ∷ []) × ((source_run early_exit negative 8).end ≡ Fuel)
unfolding tree_opened
cut_again = (refl, refl)

-- the packets of the closing iteration, judged
early_judged : judgement_at early_exit early_break negative (source_run early_exit negative 10000) 0 1 6 ≡ Clean
    (record { effects = Decided (pos 1) ∷ Stored 2 (negsuc 0) ∷ Tried (pos 1) ∷ []; sites = 2 ∷ 3 ∷ 4 ∷ []; closing = true })
unfolding tree_opened Rattle.dp_semantics.specs.StageRun.turn_from Rattle.dp_semantics.specs.Judge.judge_from
early_judged = refl

late_judged : judgement_at early_exit late_break negative (source_run early_exit negative 10000) 0 1 6 ≡ Unclean
unfolding tree_opened Rattle.dp_semantics.specs.StageRun.turn_from Rattle.dp_semantics.specs.Judge.judge_from
late_judged = refl
