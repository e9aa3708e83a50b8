-- What a run of an expanded program shows of the program with calls.
use Rattle.std.specs.Prelude.{◌≡◌, ℕ, List, length, take, ℤ}
use Rattle.dp_tree.specs.declared.Program.{Program}
use Rattle.dp_tree.specs.Trace.{Run, run_of, begin, prints}
use Rattle.dp_tree.specs.Iteration.{cells_after}
use Rattle.dp_calls.specs.Frame.{global_count}
use Rattle.dp_calls.specs.Frames.{CallsOutcome, outcome}
use Rattle.dp_calls.specs.Expand.{expand}

-- the outcome that is read from a run of this program: its last memory begins with the cells of the file-scope variables
abbrev pub outcome_of_run : Program → Run → CallsOutcome
outcome_of_run q run = record {
  prints = prints run.trace;
  globals = take (global_count q) (cells_after run (length run.trace));
  steps = length run.trace;
  end = run.end;
}

-- For every input and fuel q has the prints, the steps, the end and the file-scope values of p with call frames.
abbrev pub DoesTheSame : Program → Program → Type 0
DoesTheSame p q = (input : List ℤ) (fuel : ℕ) → outcome p input fuel ≡ outcome_of_run q (run_of q input fuel (begin q))

-- The program with call frames and the expanded one do the same.
abbrev pub SameMeaning : Program → Type 0
SameMeaning p = DoesTheSame p (expand p)
