-- The kinds of the stages of a histogram.
use Rattle.std.proofs.Common.{◌≡◌, refl, Bool, true, false, List, [], ◌∷◌}
use Rattle.dp_tree.proofs.Build.{tree_opened}
use Rattle.dp_tree.proofs.Programs.{histogram}
use Rattle.dp_tree.specs.declared.Stmt.{Stmt}
use Rattle.dp_plan.specs.declared.Plan.{Plan}
use Rattle.dp_plan.specs.declared.StageKind.TheVariants.{Seq}
use Rattle.dp_plan.proofs.Plans.{unchecked, plan, histogram_plan}
use Rattle.dp_net.specs.NetItems.{Marks}
use Rattle.dp_net.specs.Hidden.{marks_of}
use Rattle.dp_columns.specs.declared.ColumnKind.TheVariants.{Nothing, Value, Element, Block}
use Rattle.dp_lean_kinds.specs.ColumnKinds.{region_kinds}
unfoldable use Rattle.dp_lean_kinds.specs.ColumnKinds.{formed_at}

abbrev marks : Bool → Marks
marks blocks = marks_of histogram histogram_plan (λ (block : List Stmt). blocks)

-- the condition, and stores to x and i, which outlives the iteration
first : region_kinds histogram histogram_plan (marks false) 1 ≡ Value 0 ∷ Value 5 ∷ Value 4 ∷ Nothing ∷ Nothing ∷ []
unfolding tree_opened formed_at
first = refl

-- y, which stage 3 loads
second : region_kinds histogram histogram_plan (marks false) 2 ≡ Nothing ∷ Nothing ∷ Nothing ∷ Value 6 ∷ Nothing ∷ []
unfolding tree_opened formed_at
second = refl

-- an element, for the judge
third : region_kinds histogram histogram_plan (marks false) 3 ≡ Nothing ∷ Nothing ∷ Nothing ∷ Nothing ∷ Element ∷ []
unfolding tree_opened formed_at
third = refl

-- the sites 3 and 4 are a block
first_with_blocks : region_kinds histogram histogram_plan (marks true) 1 ≡ Value 0 ∷ Block ∷ Value 4 ∷ Nothing ∷ Nothing ∷ []
unfolding tree_opened formed_at
first_with_blocks = refl

-- both x and y are of stage 1, and no other one loads x
abbrev two_stages : Plan
two_stages = unchecked 5 (plan 4096 (Seq ∷ Seq ∷ []) (1 ∷ 1 ∷ 1 ∷ 1 ∷ 2 ∷ []) [])

not_needed : region_kinds histogram two_stages (marks_of histogram two_stages (λ (block : List Stmt). false)) 1 ≡ Value 0 ∷ Nothing ∷ Value 4
    ∷ Value 6 ∷ Nothing ∷ []
unfolding tree_opened formed_at
not_needed = refl
