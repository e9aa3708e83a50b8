-- The checked sites of the test programs under their plans.
use Rattle.std.proofs.Common.{◌≡◌, refl, ℕ, List, [], ◌∷◌, filter}
use Rattle.dp_tree.specs.declared.Program.{Program}
use Rattle.dp_plan.specs.declared.StageKind.TheVariants.{Seq, Par}
use Rattle.dp_plan.specs.declared.Plan.{Plan}
use Rattle.dp_plan.specs.Checked.{is_checked}
use Rattle.dp_plan.specs.Written.{region_sites}
use Rattle.dp_tree.proofs.Build.{tree_opened}
use Rattle.dp_tree.proofs.Programs.{zero_divisor, stale_read, skip_negative, histogram, two_stores, stale_step, stale_divisor, word_table_expanded}
use Rattle.dp_plan.proofs.Plans.{plan, zero_divisor_plan, stale_read_plan, skip_negative_plan, histogram_plan, two_stores_plan, stale_step_plan}
use Rattle.dp_plan.proofs.Plans.{stale_divisor_plan, word_table_plan}

abbrev checked : Program → Plan → List ℕ
checked p plan = filter (is_checked p plan) (region_sites p plan.region)

-- the assumed `if` and the sites that it guards load nothing that a later stage stores
guarded : checked skip_negative skip_negative_plan ≡ []
unfolding tree_opened
guarded = refl

-- site 3 loads the array that stage 2 stores
delayed : checked stale_read stale_read_plan ≡ 3 ∷ []
unfolding tree_opened
delayed = refl

-- site 5 loads the step that stage 2 stores
stepping : checked stale_step (stale_step_plan 64) ≡ 5 ∷ []
unfolding tree_opened
stepping = refl

-- with the `if` and its body in stage 2, sites 2 and 6 of stage 1 load the `i` that site 5 stores
counted_later : checked skip_negative (plan 4096 (Seq ∷ Seq ∷ []) (1 ∷ 2 ∷ 2 ∷ 2 ∷ 1 ∷ 2 ∷ []) []) ≡ 2 ∷ 6 ∷ []
unfolding tree_opened
counted_later = refl

-- the division loads what stage 2 stores
divided : checked stale_divisor stale_divisor_plan ≡ 4 ∷ []
unfolding tree_opened
divided = refl

-- a replicated stage that loads and stores body locals alone has no checked site
replicated_locals : checked histogram histogram_plan ≡ []
unfolding tree_opened
replicated_locals = refl

replicated_rounds : checked word_table_expanded word_table_plan ≡ []
unfolding tree_opened
replicated_rounds = refl

-- a replicated stage doesn't see its own stores of other iterations: the array's element is checked
replicated_counts : checked histogram (plan 4096 (Seq ∷ Par ∷ []) (1 ∷ 1 ∷ 1 ∷ 2 ∷ 2 ∷ []) []) ≡ 6 ∷ []
unfolding tree_opened
replicated_counts = refl

-- a body local that a later stage stores is checked too
late_local : checked histogram (plan 4096 (Seq ∷ Seq ∷ []) (1 ∷ 2 ∷ 1 ∷ 1 ∷ 1 ∷ []) []) ≡ 5 ∷ []
unfolding tree_opened
late_local = refl

unloaded_stores : checked two_stores two_stores_plan ≡ []
unfolding tree_opened
unloaded_stores = refl

unread_quotient : checked zero_divisor zero_divisor_plan ≡ []
unfolding tree_opened
unread_quotient = refl
