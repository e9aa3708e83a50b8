-- What an iteration changed of the memory.
use Rattle.std.specs.Prelude.{ℕ, if◌then◌else◌, suc, Bool, not, ◌&&◌, List, length, ℤ, pos, get_or, filter, map}
use Rattle.std.specs.Ordering.{int_eq}
use Rattle.dp_log.specs.declared.SetOf.{SetOf}
use Rattle.dp_tree.specs.declared.Program.{Program}
use Rattle.dp_tree.specs.Numbering.{numbers_from}
use Rattle.dp_tree.specs.Trace.{Run}
use Rattle.dp_tree.specs.Iteration.{cells_after, has_ended, memory_after}
use Rattle.dp_plan.specs.declared.Plan.{Plan}
use Rattle.dp_semantics.specs.Seen.{is_local_at}

-- the cell isn't that of a body local of the plan's region, and holds another value after than before
abbrev pub has_changed : Program → Plan → List ℤ → List ℤ → ℕ → Bool
has_changed p plan before after c = not (is_local_at p plan c) && not (int_eq (get_or before c (pos 0)) (get_or after c (pos 0)))

-- a cell with its value
abbrev pub set_from : List ℤ → ℕ → SetOf
set_from cells c = record { cell = record { 0 = c }; value = get_or cells c (pos 0) }

-- the cells that have changed, in ascending order, with their new values
abbrev pub changes_between : Program → Plan → List ℤ → List ℤ → List SetOf
changes_between p plan before after = map (set_from after) (filter (has_changed p plan before after) (numbers_from 0 (length after)))

-- the memory behind iteration i of region r: where the iteration ended, or else where the run does
abbrev pub memory_behind : Run → ℕ → ℕ → List ℤ
memory_behind run r i = if has_ended run r i then memory_after run r (suc i) else cells_after run (length run.trace)

-- what iteration i changed: a store of the value that the cell has already changes nothing
abbrev pub changes_of : Program → Plan → Run → ℕ → List SetOf
changes_of p plan run i = changes_between p plan (memory_after run plan.region i) (memory_behind run plan.region i)
