-- The verdicts of an epoch and what an event loads, computed.
use Rattle.std.proofs.Common.{◌≡◌, refl, ℕ, ◌==◌, true, List, [], ◌∷◌, pos, filter, map, Option, Some, None}
use Rattle.std.specs.List.{flat_map}
use Rattle.dp_base.specs.declared.Cause.TheVariants as why
use Rattle.dp_tree.specs.Eval.{Load}
use Rattle.dp_tree.specs.Step.{Event}
use Rattle.dp_tree.specs.Trace.{Run}
use Rattle.dp_tree.specs.Iteration.{start, iteration, memory_after}
use Rattle.dp_tree.proofs.Build.{tree_opened}
use Rattle.dp_tree.proofs.Programs.{stale_read}
use Rattle.dp_plan.proofs.Plans.{stale_read_plan}
use Rattle.dp_semantics.specs.StageRun.{turn_from}
use Rattle.dp_semantics.specs.Judge.{judge_from}
use Rattle.dp_semantics.specs.EpochKey.{EpochKey}
use Rattle.dp_semantics.specs.EpochVerdicts.{Again, goes_on, verdict_at}
use Rattle.dp_semantics.specs.LoadedCells.{load_from, loaded_cells}
use Rattle.dp_semantics.specs.Verdict.{source_run}

abbrev run : Run
run = source_run stale_read [] 10000

abbrev steps_before : Option ℕ → ℕ
steps_before None = 0
steps_before (Some k) = k

-- the epoch that begins with iteration i of the run
abbrev key : ℕ → EpochKey
key i = record {
  program = stale_read;
  plan = stale_read_plan;
  input = [];
  first = i;
  base = memory_after run 1 i;
  steps = steps_before (start run
      1 i);
  fuel = 10000;
}

-- From the start, iteration 2 reads what 0 stored; in the epoch that begins with iteration 1 that is in the base, and 3 reads what 1 stored.
from_the_start : (goes_on (verdict_at (key 0) 0) ≡ true) × (goes_on (verdict_at (key 0) 1) ≡ true)
    × (verdict_at (key 0) 2 ≡ Again (why.Load (record { 0 = 3 }) (record { 0 = 2 }) (pos 0) (pos 1)))
unfolding tree_opened turn_from judge_from
from_the_start = (refl, refl, refl)

from_iteration_1 : (goes_on (verdict_at (key 1) 0) ≡ true) × (goes_on (verdict_at (key 1) 1) ≡ true)
    × (verdict_at (key 1) 2 ≡ Again (why.Load (record { 0 = 3 }) (record { 0 = 3 }) (pos 0) (pos 2)))
unfolding tree_opened turn_from judge_from
from_iteration_1 = (refl, refl, refl)

-- what iteration 2 loads at site 3: two variables and an element
abbrev loads : List Load
loads = flat_map (λ (event : Event). event.loads) (filter (λ (event : Event). event.site == 3) (iteration run 1 2))

cells : loaded_cells loads ≡ 8 ∷ 9 ∷ 2 ∷ []
unfolding tree_opened
cells = refl

values : map (λ (l : Load). l.value) loads ≡ pos 0 ∷ pos 2 ∷ pos 1 ∷ []
unfolding tree_opened
values = refl

-- .. which the cells and the memory before the iteration tell, since nothing is stored in it by then
told : map (λ (l : Load). l.value) (map (load_from (memory_after run 1 2)) (loaded_cells loads)) ≡ pos 0 ∷ pos 2 ∷ pos 1 ∷ []
unfolding tree_opened
told = refl
