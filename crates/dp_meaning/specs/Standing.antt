-- Where a machine stands in its program.
use Rattle.std.specs.Prelude.{◌≡◌, List, ◌++◌, ℤ, length}
use Rattle.dp_tree.specs.declared.Stmt.{Stmt}
use Rattle.dp_tree.specs.declared.Program.{Program}
use Rattle.dp_tree.specs.Step.{Config, standing}
use Rattle.dp_tree.specs.Trace.{start_cells}

-- What is left to do is the end of `main`, in a memory where it stands, with as many cells as the program has.
pub record IsEndOfMain (p : Program) (c : Config) : Type 0 where
  pub before : List Stmt
  pub cells : List ℤ
  pub main_is : p.main ≡ before ++ c.to_do
  pub config_is : c ≡ standing p c.to_do cells
  pub cells_are : length cells ≡ length (start_cells p.vars)
