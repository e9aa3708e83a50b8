-- The loop that reads what it stored two iterations before: its starts, its memory and its end.
use Rattle.std.proofs.Common.{◌≡◌, refl, ℕ, [], ◌∷◌, pos, length, map, filter}
use Rattle.dp_base.specs.declared.BinOp.TheVariants as op
use Rattle.dp_tree.specs.Event.{Event}
use Rattle.dp_tree.specs.Trace.{Run, run_of, begin}
use Rattle.dp_tree.specs.Iteration.{starts, begun_count, is_begun, iteration, memory_after}
use Rattle.dp_tree.specs.RegionLaws.{StandsOnce}
use Rattle.dp_tree.proofs.Build.{num, var, at, bin, set, set_at, tree_opened}
use Rattle.dp_tree.proofs.Programs.{add, stale_read}

abbrev run : ℕ → Run
run fuel = run_of stale_read [] fuel (begin stale_read)

steps_of : length (run 100).trace ≡ 26
unfolding tree_opened
steps_of = refl

starts_of : starts (run 100) 1 ≡ 1 ∷ 5 ∷ 9 ∷ 13 ∷ 17 ∷ 21 ∷ 25 ∷ []
unfolding tree_opened
starts_of = refl

memory_after_two : memory_after (run 100) 1 2 ≡ pos 0 ∷ pos 0 ∷ pos 1 ∷ pos 2 ∷ pos 0 ∷ pos 0 ∷ pos 0 ∷ pos 0 ∷ pos 0 ∷ pos 2 ∷ []
unfolding tree_opened
memory_after_two = refl

-- with fuel 5 the second iteration isn't begun, and with one step more it is
begun_with_five : begun_count (run 5) 1 ≡ 1
unfolding tree_opened
begun_with_five = refl

begun_with_six : begun_count (run 6) 1 ≡ 2
unfolding tree_opened
begun_with_six = refl

begun_ones_with_five : filter (is_begun (run 5) 1) (0 ∷ 1 ∷ 2 ∷ []) ≡ 0 ∷ []
unfolding tree_opened
begun_ones_with_five = refl

begun_ones_with_six : filter (is_begun (run 6) 1) (0 ∷ 1 ∷ 2 ∷ []) ≡ 0 ∷ 1 ∷ []
unfolding tree_opened
begun_ones_with_six = refl

abbrev site_in : Event → ℕ
site_in event = event.site

sites_of_the_third : map site_in (iteration (run 100) 1 2) ≡ 2 ∷ 3 ∷ 4 ∷ 5 ∷ []
unfolding tree_opened
sites_of_the_third = refl

-- with fuel 7 the second iteration is cut behind its first assignment
sites_of_the_cut_one : map site_in (iteration (run 7) 1 1) ≡ 2 ∷ 3 ∷ []
unfolding tree_opened
sites_of_the_cut_one = refl

sites_of_the_closing_one : map site_in (iteration (run 100) 1 6) ≡ 2 ∷ []
unfolding tree_opened
sites_of_the_closing_one = refl

-- the region stands once in `main`, so the law on the events of regions speaks of it
region_stands_once : StandsOnce stale_read 1
unfolding tree_opened
region_stands_once = record {
  site = record { 0 = 2 };
  cond = bin op.Lt (var 2) (num 6);
  body = set 3 1 (add (var 1) (at 0 (var 2))) ∷ set 4 2 (add (var 2) (num 1)) ∷ set_at 5 0 (bin op.Rem (add (var 2) (num 1)) (num 8)) (var 2) ∷ [];
  before = set 1 2 (num 0) ∷ [];
  behind = [];
  main_is = refl;
  condition = refl;
  inside = refl;
  inner = refl;
  earlier = refl;
  later = refl;
}
