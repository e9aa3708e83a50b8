-- The law of what an event loads: its cells tell the values.
use Rattle.std.specs.Prelude.{◌≡◌, ℕ, List, ℤ, pos, map, Some, slice_get, get_or}
use Rattle.dp_tree.specs.declared.Program.{Program}
use Rattle.dp_tree.specs.Eval.{Load}
use Rattle.dp_tree.specs.Step.{Config, Event}
use Rattle.dp_tree.specs.Trace.{run_of}

-- the load of a cell of this memory
abbrev pub load_from : List ℤ → ℕ → Load
load_from cells c = record { cell = c; value = get_or cells c (pos 0) }

-- the cells of the loads, in order
abbrev pub loaded_cells : List Load → List ℕ
loaded_cells loads = map (λ l. l.cell) loads

-- In each run, an event's loads are those of its cells from the memory before the step.
abbrev pub CellsTellLoads : Program → Type 0
CellsTellLoads p = (input : List ℤ) (fuel k : ℕ) (c before : Config) (event : Event) → slice_get (run_of p input fuel c).configs k ≡ Some before →
    slice_get (run_of p input fuel c).trace k ≡ Some event →
    event.loads ≡ map (load_from before.cells) (loaded_cells event.loads)
