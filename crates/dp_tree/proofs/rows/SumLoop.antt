-- The straight loop, whose run takes 14 steps, with fuels up to that.
use Rattle.std.proofs.Common.{◌≡◌, refl, ℕ, List, [], ◌∷◌, ℤ, pos, length, Some, None, filter}
use Rattle.dp_base.specs.declared.End.{End}
use Rattle.dp_base.specs.declared.End.TheVariants.{Done, Fuel}
use Rattle.dp_tree.specs.declared.Program.{Program}
use Rattle.dp_tree.specs.Trace.{Run, run_of, begin, prints}
use Rattle.dp_tree.specs.Iteration.{start, begun_count, has_ended, cells_after, memory_after}
use Rattle.dp_tree.proofs.Build.{tree_opened}
use Rattle.dp_tree.proofs.Programs.{sum_loop, closed_at_once, empty_program}

-- the prints, the cells at the end, the steps, the begun iterations, those of the first five that have ended, and the end
record Summary : Type 0 where
  prints : List ℤ
  cells : List ℤ
  steps : ℕ
  begun : ℕ
  ended : List ℕ
  end : End

abbrev summary_of : Run → Summary
summary_of run = record {
  prints = prints run.trace;
  cells = cells_after run (length run.trace);
  steps = length run.trace;
  begun = begun_count run 1;
  ended = filter (has_ended run 1) (0 ∷ 1 ∷ 2 ∷ 3 ∷ 4 ∷ []);
  end = run.end;
}

abbrev summary : Program → ℕ → Summary
summary p fuel = summary_of (run_of p [] fuel (begin p))

no_step : summary sum_loop 0 ≡ record { prints = []; cells = pos 0 ∷ pos 0 ∷ []; steps = 0; begun = 0; ended = []; end = Fuel }
unfolding tree_opened
no_step = refl

-- the fuel is spent exactly before a condition: that iteration isn't begun
before_a_condition : summary sum_loop 9
    ≡ record { prints = pos 0 ∷ pos 1 ∷ []; cells = pos 1 ∷ pos 2 ∷ []; steps = 9; begun = 2; ended = 0 ∷ 1 ∷ []; end = Fuel }
unfolding tree_opened
before_a_condition = refl

-- one step more: the iteration is begun, and hasn't ended
after_a_condition : summary sum_loop 10
    ≡ record { prints = pos 0 ∷ pos 1 ∷ []; cells = pos 1 ∷ pos 2 ∷ []; steps = 10; begun = 3; ended = 0 ∷ 1 ∷ []; end = Fuel }
unfolding tree_opened
after_a_condition = refl

before_the_closing_condition : summary sum_loop 13
    ≡ record { prints = pos 0 ∷ pos 1 ∷ pos 3 ∷ []; cells = pos 3 ∷ pos 3 ∷ []; steps = 13; begun = 3; ended = 0 ∷ 1 ∷ 2 ∷ []; end = Fuel }
unfolding tree_opened
before_the_closing_condition = refl

-- nothing is left to evaluate, so the end is Done with no fuel left
whole_run : summary sum_loop 14
    ≡ record { prints = pos 0 ∷ pos 1 ∷ pos 3 ∷ []; cells = pos 3 ∷ pos 3 ∷ []; steps = 14; begun = 4; ended = 0 ∷ 1 ∷ 2 ∷ 3 ∷ []; end = Done }
unfolding tree_opened
whole_run = refl

whole_run_with_fuel_left : summary sum_loop 100
    ≡ record { prints = pos 0 ∷ pos 1 ∷ pos 3 ∷ []; cells = pos 3 ∷ pos 3 ∷ []; steps = 14; begun = 4; ended = 0 ∷ 1 ∷ 2 ∷ 3 ∷ []; end = Done }
unfolding tree_opened
whole_run_with_fuel_left = refl

-- the one iteration is the closing one
closed : summary closed_at_once 100 ≡ record { prints = []; cells = []; steps = 1; begun = 1; ended = 0 ∷ []; end = Done }
unfolding tree_opened
closed = refl

-- with no fuel the condition at the head isn't begun
not_begun : summary closed_at_once 0 ≡ record { prints = []; cells = []; steps = 0; begun = 0; ended = []; end = Fuel }
unfolding tree_opened
not_begun = refl

-- a program without a site ends with no fuel at all
empty : summary empty_program 0 ≡ record { prints = []; cells = []; steps = 0; begun = 0; ended = []; end = Done }
unfolding tree_opened
empty = refl

-- iteration 2 starts after nine steps, and the memory there is that after two iterations
third_start : start (run_of sum_loop [] 100 (begin sum_loop)) 1 2 ≡ Some 9
unfolding tree_opened
third_start = refl

memory_after_two : memory_after (run_of sum_loop [] 100 (begin sum_loop)) 1 2 ≡ pos 1 ∷ pos 2 ∷ []
unfolding tree_opened
memory_after_two = refl

-- after the closing iteration no further one starts, and the memory is that after its condition
memory_after_all : memory_after (run_of sum_loop [] 100 (begin sum_loop)) 1 4 ≡ pos 3 ∷ pos 3 ∷ []
unfolding tree_opened
memory_after_all = refl

no_fifth_start : start (run_of sum_loop [] 100 (begin sum_loop)) 1 4 ≡ None
unfolding tree_opened
no_fifth_start = refl
