-- What a region's iterations print.
use Rattle.std.specs.Prelude.{ℕ, List, ◌++◌, ℤ, drop}
use Rattle.dp_tree.specs.Trace.{prints}
use Rattle.dp_tree.specs.Iteration.{begun_count, iteration}
use Rattle.dp_tree.specs.IterationLaws.{events_of_first}
use Rattle.dp_plan.specs.declared.Plan.{Plan}
use Rattle.dp_meaning.specs.MachineState.{MachineState}
use Rattle.dp_commit.specs.CommittedState.{region_run, steps_of_first}

-- what the region's n-th iteration prints
abbrev pub prints_of : Plan → MachineState → ℕ → List ℤ
prints_of plan first n = prints (iteration (region_run first) plan.region n)

-- what the region's iterations from the n-th on print
abbrev pub prints_from : Plan → MachineState → ℕ → List ℤ
prints_from plan first n =
    prints (drop (steps_of_first (region_run first) plan.region n) (events_of_first (region_run first) plan.region
    (begun_count (region_run first) plan.region)))

-- what is still to be written of the region's prints: those that wait, and those of its iterations from the n-th on
abbrev pub prints_to_come : Plan → MachineState → List ℤ → ℕ → List ℤ
prints_to_come plan first waiting n = waiting ++ prints_from plan first n
