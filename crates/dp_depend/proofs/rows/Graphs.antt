-- The edges of the test programs' regions.
use Rattle.std.proofs.Common.{◌≡◌, refl, ℕ, [], ◌∷◌, Some, None}
use Rattle.dp_tree.proofs.Build.{tree_opened}
use Rattle.dp_tree.proofs.Programs.{sum_loop, skip_negative}
use Rattle.dp_depend.specs.declared.Edge.{Edge}
use Rattle.dp_depend.specs.declared.EdgeKind.{EdgeKind}
use Rattle.dp_depend.specs.declared.EdgeKind.TheVariants.{Control, Intra, Carried}
use Rattle.dp_depend.specs.Edges.{edges_of, edges_among, edges_from, edges_between}
use Rattle.dp_tree.proofs.RegionPrograms.{early_exit, near_reads}
use Rattle.dp_depend.proofs.rows.Programs.{generated, inner_loops, inner_loops_shown, ahead, sum_loop_shown, skip_negative_shown}

abbrev edge_to : ℕ → EdgeKind → ℕ → Edge
edge_to from kind to = record { from = record { 0 = from }; to = record { 0 = to }; kind = kind }

abbrev pub control : ℕ → ℕ → Edge
control from to = edge_to from Control to

abbrev pub intra : ℕ → ℕ → Edge
intra from to = edge_to from Intra to

abbrev pub carried : ℕ → ℕ → Edge
carried from to = edge_to from Carried to

unfoldable pub edges_opened : Unit {0}
unfolding edges_among edges_from edges_between tree_opened
edges_opened = tt

by_the_text : edges_of sum_loop 1 None 10
    ≡ control 2 3 ∷ control 2 4 ∷ control 2 5 ∷ carried 3 3 ∷ intra 3 4 ∷ carried 3 4 ∷ carried 5 2 ∷ carried 5 3 ∷ carried 5 5 ∷ []
unfolding edges_opened
by_the_text = refl

-- the carried flow from 3 to 4 wasn't shown
by_a_profile : edges_of sum_loop 1 (Some sum_loop_shown) 0
    ≡ control 2 3 ∷ control 2 4 ∷ control 2 5 ∷ carried 3 3 ∷ intra 3 4 ∷ carried 5 2 ∷ carried 5 3 ∷ carried 5 5 ∷ []
unfolding edges_opened
by_a_profile = refl

-- at the highest rate no flow is frequent
all_rare : edges_of sum_loop 1 (Some sum_loop_shown) 1000 ≡ control 2 3 ∷ control 2 4 ∷ control 2 5 ∷ []
unfolding edges_opened
all_rare = refl

-- the `if` at 4 decides nothing, and the edges into site 5, which never ran, stay
assumed : edges_of skip_negative 1 (Some skip_negative_shown) 10
    ≡ control 2 3 ∷ control 2 4 ∷ control 2 5 ∷ control 2 6 ∷ control 2 7 ∷ intra 3 4 ∷ intra 3 7 ∷ carried 5 5
    ∷ carried 6 2 ∷ carried 6 3 ∷ carried 6 5 ∷ carried 6 6 ∷ carried 7 7 ∷ []
unfolding edges_opened
assumed = refl

-- an early exit decides nothing behind it
exit : edges_of early_exit 1 None 10
    ≡ control 2 3 ∷ control 2 4 ∷ control 2 5 ∷ control 2 6 ∷ intra 3 4 ∷ intra 3 5 ∷ carried 5 5 ∷ carried 6 2 ∷ carried 6 3 ∷ carried 6 6 ∷ []
unfolding edges_opened
exit = refl

-- the store stands behind the step, so it is one iteration ahead of the load
near : edges_of near_reads 1 None 10
    ≡ control 2 3 ∷ control 2 4 ∷ control 2 5 ∷ carried 3 3 ∷ carried 4 2 ∷ carried 4 3 ∷ carried 4 4 ∷ intra 4 5 ∷ carried 4 5 ∷ carried 5 3 ∷ []
unfolding edges_opened
near = refl

-- body locals are carried nowhere
chain : edges_of generated 1 None 10
    ≡ control 2 3 ∷ control 2 4 ∷ control 2 5 ∷ control 2 6 ∷ control 2 7 ∷ control 2 8 ∷ control 2 9 ∷ control 2 10 ∷ control 2 11
    ∷ intra 3 5 ∷ carried 4 2 ∷ carried 4 3 ∷ carried 4 4 ∷ intra 5 6 ∷ intra 6 7 ∷ intra 7 8 ∷ intra 8 9 ∷ intra 9 10 ∷ intra 9 11
    ∷ carried 10 10 ∷ carried 11 11 ∷ []
unfolding edges_opened
chain = refl

-- the second region: what is stored in an inner loop is loaded in front of it within the outermost one, and in no other
inner : edges_of inner_loops 2 None 10
    ≡ control 4 5 ∷ control 4 6 ∷ control 4 7 ∷ control 4 8 ∷ control 4 9 ∷ control 4 10 ∷ control 4 11 ∷ control 4 12 ∷ control 4 13
    ∷ control 4 14 ∷ control 5 6
    ∷ control 5 7 ∷ control 5 8 ∷ control 6 7 ∷ intra 7 6 ∷ carried 7 6 ∷ intra 7 7 ∷ carried 7 7 ∷ intra 7 8 ∷ carried 7 8 ∷ intra 7 9 ∷ carried 7 9
    ∷ intra 7 11 ∷ carried 7 11 ∷ intra 7 12 ∷ carried 7 12 ∷ intra 7 13 ∷ carried 7 13 ∷ intra 8 5 ∷ carried 8 5 ∷ intra 8 6 ∷ carried 8 6 ∷ intra 8 8
    ∷ carried 8 8 ∷ intra 8 10 ∷ carried 8 10 ∷ control 9 10 ∷ control 9 11 ∷ intra 10 12 ∷ carried 10 12 ∷ intra 10 13 ∷ carried 10 13
    ∷ intra 11 12 ∷ carried 11 12
    ∷ intra 11 13 ∷ carried 11 13 ∷ control 12 13 ∷ carried 13 6 ∷ carried 13 7 ∷ carried 13 8 ∷ carried 13 9 ∷ carried 13 11 ∷ intra 13 12
    ∷ carried 13 12 ∷ intra 13 13
    ∷ carried 13 13 ∷ carried 14 4 ∷ carried 14 5 ∷ carried 14 14 ∷ []
unfolding edges_opened
inner = refl

-- its own counts decide, those of the site that loads
of_its_own_counts : edges_of inner_loops 2 (Some inner_loops_shown) 400
    ≡ control 4 5 ∷ control 4 6 ∷ control 4 7 ∷ control 4 8 ∷ control 4 9 ∷ control 4 10 ∷ control 4 11 ∷ control 4 12 ∷ control 4 13
    ∷ control 4 14 ∷ control 5 6
    ∷ control 5 7 ∷ control 5 8 ∷ control 6 7 ∷ control 9 10 ∷ control 9 11 ∷ control 12 13 ∷ carried 13 7 ∷ []
unfolding edges_opened
of_its_own_counts = refl

-- what is stored one element ahead is loaded in the next iteration, and two elements ahead never
apart : edges_of ahead 1 None 10
    ≡ control 2 3 ∷ control 2 4 ∷ control 2 5 ∷ control 2 6 ∷ carried 3 4 ∷ carried 4 4 ∷ intra 4 5 ∷ carried 4 5 ∷ carried 5 4 ∷ carried 5 5 ∷ carried 6 2
    ∷ carried 6 3 ∷ carried 6 4 ∷ carried 6 5 ∷ carried 6 6 ∷ []
unfolding edges_opened
apart = refl
