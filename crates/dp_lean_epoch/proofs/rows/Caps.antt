-- Which stages keep their memory, computed.
use Rattle.std.proofs.Common.{◌≡◌, refl, true, false, [], ◌∷◌, map}
use Rattle.dp_tree.proofs.Build.{tree_opened}
use Rattle.dp_lean_epoch.specs.Steps.{feeds_itself, keeps_memory, lean_cap}
use Rattle.dp_lean_epoch.proofs.rows.Small.{small, small_plan, adding_plan}

-- stage 1 counts i, stage 3 adds to s, and what stage 2 stores doesn't outlive the iteration
fed : map (feeds_itself small small_plan) (1 ∷ 2 ∷ 3 ∷ []) ≡ true ∷ false ∷ true ∷ []
unfolding tree_opened
fed = refl

-- of these the second is replicated
kept : map (keeps_memory small small_plan) (1 ∷ 2 ∷ 3 ∷ []) ≡ true ∷ true ∷ true ∷ []
unfolding tree_opened
kept = refl

many : lean_cap small small_plan 64 ≡ 64
unfolding tree_opened
many = refl

-- where the third is, its workers don't keep what they add to s
lost : map (keeps_memory small adding_plan) (1 ∷ 2 ∷ 3 ∷ []) ≡ true ∷ true ∷ false ∷ []
unfolding tree_opened
lost = refl

one : lean_cap small adding_plan 64 ≡ 1
unfolding tree_opened
one = refl
