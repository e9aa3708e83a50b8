-- Which sites are left to each stage, computed.
use Rattle.std.proofs.Common.{◌≡◌, refl, ℕ, Bool, true, false, List, [], ◌∷◌, map}
use Rattle.std.specs.List.{flat_map}
use Rattle.dp_tree.proofs.Build.{tree_opened}
use Rattle.dp_plan.specs.Access.{Access, accesses}
use Rattle.dp_lean.specs.LeanText.{lean_text}
use Rattle.dp_lean.proofs.rows.Mixed.{mixed, mixed_plan, marks}

abbrev sites : Bool → ℕ → List ℕ
sites blocks s = map (λ (a : Access). a.site) (flat_map accesses (lean_text mixed mixed_plan (marks blocks) s))

-- the first stage has no earlier one
first : sites false 1 ≡ 2 ∷ 3 ∷ 4 ∷ 6 ∷ 7 ∷ 13 ∷ []
unfolding tree_opened
first = refl

-- Stage 2 reads x, and i for the workers behind it. It reads nothing of the `if` of stage 1, and no print.
second : sites false 2 ≡ 2 ∷ 3 ∷ 4 ∷ 5 ∷ 8 ∷ 9 ∷ 14 ∷ []
unfolding tree_opened
second = refl

-- stage 3 reads i and j, which is stored in a loop of stage 2
third : sites false 3 ≡ 2 ∷ 4 ∷ 8 ∷ 9 ∷ 10 ∷ 14 ∷ []
unfolding tree_opened
third = refl

-- stage 4 reads y and u
fourth : sites false 4 ≡ 2 ∷ 5 ∷ 10 ∷ 11 ∷ 12 ∷ 14 ∷ []
unfolding tree_opened
fourth = refl

-- The judge reads what outlives the iteration, the print, and the checked site with the `if` around it.
judge : sites false 5 ≡ 2 ∷ 4 ∷ 6 ∷ 7 ∷ 11 ∷ 12 ∷ 13 ∷ 14 ∷ []
unfolding tree_opened
judge = refl

-- of a block all statements are left, or none
third_blocks : sites true 3 ≡ 2 ∷ 3 ∷ 4 ∷ 8 ∷ 9 ∷ 10 ∷ 14 ∷ []
unfolding tree_opened
third_blocks = refl

fourth_blocks : sites true 4 ≡ 2 ∷ 5 ∷ 10 ∷ 11 ∷ 12 ∷ 14 ∷ []
unfolding tree_opened
fourth_blocks = refl

judge_blocks : sites true 5 ≡ 2 ∷ 3 ∷ 4 ∷ 6 ∷ 7 ∷ 11 ∷ 12 ∷ 13 ∷ 14 ∷ []
unfolding tree_opened
judge_blocks = refl
