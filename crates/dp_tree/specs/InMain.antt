-- Where a run may stand: within `main`, with as many cells as the program has.
use Rattle.std.specs.Prelude.{◌≡◌, ℕ, true, List, ◌++◌, ℤ, length, Some, slice_get}
use Rattle.std.specs.List.{list_all}
use Rattle.dp_tree.specs.declared.Stmt.{Stmt}
use Rattle.dp_tree.specs.declared.Program.{Program}
use Rattle.dp_tree.specs.Numbering.{is_inner}
use Rattle.dp_tree.specs.Step.{Config, standing}
use Rattle.dp_tree.specs.Trace.{run_of, start_cells}

-- Some statements of a region's body, or plain ones, are left to do, and then `main` from some place on.
pub record StandsInMain (p : Program) (c : Config) : Type 0 where
  pub inner : List Stmt
  pub before : List Stmt
  pub behind : List Stmt
  pub cells : List ℤ
  pub main_is : p.main ≡ before ++ behind
  pub plain : list_all is_inner inner ≡ true
  pub config_is : c ≡ standing p (inner ++ behind) cells
  pub cells_are : length cells ≡ length (start_cells p.vars)

-- Where a run begins so, each of its configurations stands so.
abbrev pub StaysInMain : Program → List ℤ → Type 0
StaysInMain p input = (fuel k : ℕ) (c d : Config) → StandsInMain p c → slice_get (run_of p input fuel c).configs k ≡ Some d → StandsInMain p d
