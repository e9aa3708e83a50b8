-- The outcomes that may be assumed.
use Rattle.std.proofs.Common.{◌≡◌, refl, true, false, [], ◌∷◌, Some, None}
use Rattle.dp_tree.proofs.Build.{tree_opened, assume}
use Rattle.dp_tree.proofs.Programs.{skip_negative}
use Rattle.dp_depend.specs.Edges.{chosen_of}
use Rattle.dp_depend.specs.Node.{if_node, plain_node}
use Rattle.dp_depend.specs.Shown.{chosen_among, chosen_outcome, counts_at, is_above, region_profile}
use Rattle.dp_depend.proofs.rows.Programs.{count, skip_negative_shown}

never_taken : chosen_of skip_negative 1 (Some skip_negative_shown) 10 ≡ assume 4 false ∷ []
unfolding tree_opened
never_taken = refl

nothing_without_a_profile : chosen_of skip_negative 1 None 1000 ≡ []
unfolding tree_opened
nothing_without_a_profile = refl

-- one of a hundred runs is ten in a thousand
just_rare : chosen_outcome 10 (record { runs = 100; nonzero = 99 }) ≡ Some true
just_rare = refl

too_frequent : chosen_outcome 9 (record { runs = 100; nonzero = 99 }) ≡ None
too_frequent = refl

tie : chosen_outcome 500 (record { runs = 4; nonzero = 2 }) ≡ Some false
tie = refl

more_frequent : chosen_outcome 1000 (record { runs = 4; nonzero = 3 }) ≡ Some true
more_frequent = refl

never_ran : chosen_outcome 1000 (record { runs = 0; nonzero = 0 }) ≡ None
never_ran = refl

-- the second site is no `if`
in_text_order : chosen_among (count 2 0 ∷ count 2 0 ∷ count 2 2 ∷ []) 5 0 (if_node [] None (record { 0 = 5 }) [] ∷ plain_node [] None (record { 0 = 6 }) [] None
    ∷ if_node [] None (record { 0 = 7 }) [] ∷ [])
    ≡ assume 5 false ∷ assume 7 true ∷ []
in_text_order = refl

-- one of one is a thousand in a thousand
just_above : is_above 999 1 1 ≡ true
just_above = refl

before_the_first : counts_at (count 3 1 ∷ []) 5 4 ≡ count 0 0
before_the_first = refl

behind_the_last_region : region_profile (Some skip_negative_shown) 2 ≡ record { sites = []; flows = [] }
behind_the_last_region = refl
