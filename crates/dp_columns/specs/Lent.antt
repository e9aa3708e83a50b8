-- Parts of two rows, lent.
use Rattle.std.specs.Prelude.{◌≡◌, List, length}
use Rattle.dp_tree.specs.Eval.{Load}
use Rattle.dp_columns.specs.Paired.{pairs_of}
use Rattle.dp_columns.specs.declared.pairs.Part.{Part}

-- The rows of cells and of values are equally long, and are these pairs.
pub record IsPart (pairs : List Load) (p : Part) : Type 0 where
  pub is : pairs_of p.cells.now p.values.now ≡ pairs
  pub even : length p.cells.now ≡ length p.values.now
