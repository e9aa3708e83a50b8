-- Plans that cuts of the test programs' units stand for.
use Rattle.std.proofs.Common.{◌≡◌, refl, true, false, [], ◌∷◌, Some, None}
use Rattle.dp_tree.proofs.Build.{tree_opened, assume}
use Rattle.dp_tree.proofs.Programs.{sum_loop, skip_negative}
use Rattle.dp_plan.specs.declared.StageKind.TheVariants.{Seq, Par}
use Rattle.dp_plan.specs.Valid.{is_valid_plan}
use Rattle.dp_depend.specs.Edges.{edges_of}
use Rattle.dp_depend.proofs.rows.Graphs.{edges_opened}
use Rattle.dp_tree.proofs.RegionPrograms.{early_exit}
use Rattle.dp_depend.proofs.rows.Programs.{generated, inner_loops, inner_loops_shown, skip_negative_shown}
use Rattle.dp_cut.specs.Automatic.{node_pairs, weights_of}
use Rattle.dp_cut.specs.LeastPlan.{unit_weights, carried_pairs, cut_plan_before_table, plan_of_cut}
use Rattle.dp_least_cut.proofs.rows.Cuts.{seq, par}

-- sites 2 and 5 are one unit, and 3 and 4 one each
units_of_sum_loop : unit_weights 3 (0 ∷ 1 ∷ 2 ∷ 0 ∷ []) (1 ∷ 1 ∷ 1 ∷ 1 ∷ []) ≡ 2 ∷ 1 ∷ 1 ∷ []
units_of_sum_loop = refl

carried_in_sum_loop : carried_pairs (0 ∷ 1 ∷ 2 ∷ 0 ∷ []) 2 (edges_of sum_loop 1 None 10) ≡ (1, 1) ∷ (1, 2) ∷ (0, 0) ∷ (0, 1) ∷ (0, 0) ∷ []
unfolding edges_opened
carried_in_sum_loop = refl

-- where nothing was counted, each site weighs the same
weights_by_the_text : weights_of sum_loop 1 None ≡ 1 ∷ 1 ∷ 1 ∷ 1 ∷ []
unfolding tree_opened
weights_by_the_text = refl

weights_by_a_profile : weights_of skip_negative 1 (Some skip_negative_shown) ≡ 4 ∷ 3 ∷ 3 ∷ 0 ∷ 3 ∷ 3 ∷ []
unfolding tree_opened
weights_by_a_profile = refl

weights_of_the_second_region : weights_of inner_loops 2 (Some inner_loops_shown) ≡ 3 ∷ 3 ∷ 3 ∷ 1 ∷ 1 ∷ 2 ∷ 1 ∷ 1 ∷ 3 ∷ 3 ∷ 2 ∷ []
unfolding tree_opened
weights_of_the_second_region = refl

-- nodes are numbered from 0
pairs_of_sum_loop : node_pairs sum_loop 1 None 10 ≡ (0, 1) ∷ (0, 2) ∷ (0, 3) ∷ (1, 1) ∷ (1, 2) ∷ (1, 2) ∷ (3, 0) ∷ (3, 1) ∷ (3, 3) ∷ []
unfolding edges_opened
pairs_of_sum_loop = refl

whole_plan : cut_plan_before_table sum_loop 1 (0 ∷ 1 ∷ 2 ∷ 0 ∷ []) [] (seq 1 ∷ seq 2 ∷ [])
    ≡ record { region = 1; words = 4096; stages = Seq ∷ Seq ∷ []; stage_of = 1 ∷ 2 ∷ 2 ∷ 1 ∷ []; assume = []; proved = true; checked_at = [] }
unfolding tree_opened
whole_plan = refl

one_cut : (plan_of_cut sum_loop 1 (0 ∷ 1 ∷ 2 ∷ 0 ∷ []) [] (seq 1 ∷ seq 2 ∷ [])).stage_of ≡ 1 ∷ 2 ∷ 2 ∷ 1 ∷ []
one_cut = refl

no_cut : (plan_of_cut sum_loop 1 (0 ∷ 1 ∷ 2 ∷ 0 ∷ []) [] (seq 3 ∷ [])).stage_of ≡ 1 ∷ 1 ∷ 1 ∷ 1 ∷ []
no_cut = refl

-- the weights of a profile
units_of_skip_negative : unit_weights 5 (0 ∷ 1 ∷ 2 ∷ 3 ∷ 0 ∷ 4 ∷ []) (4 ∷ 3 ∷ 3 ∷ 0 ∷ 3 ∷ 3 ∷ []) ≡ 7 ∷ 3 ∷ 3 ∷ 0 ∷ 3 ∷ []
units_of_skip_negative = refl

-- the `if` at 4 and the site inside are in one stage, so nothing is assumed
nothing_needed : (plan_of_cut skip_negative 1 (0 ∷ 1 ∷ 2 ∷ 3 ∷ 0 ∷ 4 ∷ []) (assume 4 false ∷ []) (seq 1 ∷ seq 4 ∷ [])).assume ≡ []
unfolding tree_opened
nothing_needed = refl

-- the site inside is in an earlier stage
needed : (plan_of_cut skip_negative 1 (0 ∷ 1 ∷ 2 ∷ 0 ∷ 0 ∷ 3 ∷ []) (assume 4 false ∷ []) (seq 1 ∷ seq 3 ∷ [])).assume ≡ assume 4 false ∷ []
unfolding tree_opened
needed = refl

-- one stage of four units is replicated
four_stages : (plan_of_cut generated 1 (0 ∷ 1 ∷ 0 ∷ 2 ∷ 3 ∷ 4 ∷ 5 ∷ 6 ∷ 7 ∷ 8 ∷ []) [] (seq 1 ∷ seq 2 ∷ par 4 ∷ seq 2 ∷ [])).stage_of ≡ 1 ∷ 2 ∷ 1 ∷ 2 ∷ 3 ∷ 3
    ∷ 3 ∷ 3 ∷ 4 ∷ 4 ∷ []
four_stages = refl

kinds_of_four : (plan_of_cut generated 1 (0 ∷ 1 ∷ 0 ∷ 2 ∷ 3 ∷ 4 ∷ 5 ∷ 6 ∷ 7 ∷ 8 ∷ []) [] (seq 1 ∷ seq 2 ∷ par 4 ∷ seq 2 ∷ [])).stages ≡ Seq
    ∷ Seq ∷ Par ∷ Seq ∷ []
kinds_of_four = refl

-- the exit comes with what it lets pass
exit_late : (plan_of_cut early_exit 1 (0 ∷ 1 ∷ 2 ∷ 3 ∷ 0 ∷ []) [] (seq 1 ∷ seq 1 ∷ seq 2 ∷ [])).stage_of ≡ 1 ∷ 2 ∷ 3 ∷ 3 ∷ 1 ∷ []
exit_late = refl

-- these plans are valid
valid_plan : is_valid_plan sum_loop (plan_of_cut sum_loop 1 (0 ∷ 1 ∷ 2 ∷ 0 ∷ []) [] (seq 1 ∷ seq 2 ∷ [])) ≡ true
unfolding tree_opened
valid_plan = refl

valid_when_assumed : is_valid_plan skip_negative (plan_of_cut skip_negative 1 (0 ∷ 1 ∷ 2 ∷ 0 ∷ 0 ∷ 3 ∷ []) (assume 4 false ∷ []) (seq 1 ∷ seq 3 ∷ [])) ≡ true
unfolding tree_opened
valid_when_assumed = refl
