-- Two regions, one behind the other: each has its own iterations and its own body locals.
use Rattle.std.proofs.Common.{◌≡◌, refl, ℕ, [], ◌∷◌, pos, map}
use Rattle.dp_base.specs.declared.BinOp.TheVariants as op
use Rattle.dp_tree.specs.declared.VarScope.TheVariants.{Global, Body}
use Rattle.dp_tree.specs.declared.SiteKind.TheVariants.{Assign, While}
use Rattle.dp_tree.specs.declared.Program.{Program}
use Rattle.dp_tree.specs.Event.{Event}
use Rattle.dp_tree.specs.Trace.{Run, run_of, begin}
use Rattle.dp_tree.specs.Iteration.{starts, iteration, memory_after}
use Rattle.dp_tree.proofs.Build.{num, var, bin, set, region, scalar, site, program, tree_opened}
use Rattle.dp_tree.proofs.Programs.{add}

-- No text that is accepted gives a body local a value outside its region; this tree does.
-- x = 5;
-- while (s < 1) { s = s + 1; }
-- while (s < 2) { s = s + 1 + x; }, where x is a body local of the second region
abbrev two_regions : Program
two_regions = program
    (scalar 0 (pos 0) Global ∷ scalar 1 (pos 0) (Body 2) ∷ [])
    (site 1 Assign 0 ∷ site 2 While 1 ∷ site 2 Assign 1 ∷ site 3 While 2 ∷ site 3 Assign 2 ∷ [])
    (record { line = 2; first = record { 0 = 2 }; last = record { 0 = 3 } } ∷ record { line = 3; first = record { 0 = 4 }; last = record { 0 = 5 } } ∷ [])
    (set 1 1 (num 5) ∷ region 1 2 (bin op.Lt (var 0) (num 1)) (set 3 0 (add (var 0) (num 1)) ∷ [])
    ∷ region 2 4 (bin op.Lt (var 0) (num 2)) (set 5 0 (add (add (var 0) (num 1)) (var 1)) ∷ []) ∷ [])

abbrev run : Run
run = run_of two_regions [] 100 (begin two_regions)

starts_of_the_first : starts run 1 ≡ 1 ∷ 3 ∷ []
unfolding tree_opened
starts_of_the_first = refl

starts_of_the_second : starts run 2 ≡ 4 ∷ 6 ∷ []
unfolding tree_opened
starts_of_the_second = refl

abbrev site_in : Event → ℕ
site_in event = event.site

sites_of_the_closing_one : map site_in (iteration run 1 1) ≡ 2 ∷ []
unfolding tree_opened
sites_of_the_closing_one = refl

sites_of_the_next_region : map site_in (iteration run 2 0) ≡ 4 ∷ 5 ∷ []
unfolding tree_opened
sites_of_the_next_region = refl

-- the first region leaves the second one's local as it is
memory_in_the_first : memory_after run 1 1 ≡ pos 1 ∷ pos 5 ∷ []
unfolding tree_opened
memory_in_the_first = refl

-- after its closing condition the second region stands next, and its local reads 0
memory_after_the_first : memory_after run 1 2 ≡ pos 1 ∷ pos 0 ∷ []
unfolding tree_opened
memory_after_the_first = refl
