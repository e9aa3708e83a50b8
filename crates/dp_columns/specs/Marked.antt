-- Columns with a mark each.
use Rattle.std.specs.Prelude.{◌≡◌, List, map, drop, length}
use Rattle.std.specs.List.{zip, All}
use Rattle.dp_tree.specs.Eval.{Load}
use Rattle.dp_lean.specs.Queues.{Told}
use Rattle.dp_columns.specs.Paired.{Grouped}
use Rattle.dp_columns.specs.Held.{told_of}
use Rattle.dp_columns.specs.Ahead.{IsReached}
use Rattle.dp_columns.specs.Left.{Left}
use Rattle.dp_columns.specs.declared.ColumnKind.TheVariants.{Block}
use Rattle.dp_columns.specs.declared.column.Column.{Column}
use Rattle.dp_columns.specs.declared.events.Mark.{Mark}

-- what is left behind the mark
abbrev pub told_behind : Column × Mark → List Told
told_behind x = drop x.1.at (told_of x.0)

abbrev pub loads_behind : Grouped × Mark → List (List Load)
loads_behind x = drop x.1.at x.0.ended

-- of a block's column the mark says where the next block's stores begin
abbrev pub FitsTold : Column × Mark → Type 0
FitsTold x = x.0.kind ≡ Block → IsReached x.0.blocks.ended x.1

abbrev pub FitsLoads : Grouped × Mark → Type 0
FitsLoads x = IsReached x.0.ended x.1

-- a mark for each column, and one for its loads
pub record AreMarked (columns : List Column) (events : List Grouped) (marks loads_marks : List Mark) : Type 0 where
  pub places : length events ≡ length columns
  pub each : length marks ≡ length columns
  pub each_loads : length loads_marks ≡ length events
  pub told : All FitsTold (zip columns marks)
  pub loads : All FitsLoads (zip events loads_marks)

-- what is left of all
abbrev pub left_behind_marks : List Column → List Grouped → List Mark → List Mark → Left
left_behind_marks told loads told_marks loads_marks = record {
  kinds = map (λ (c : Column). c.kind) told;
  told = map told_behind (zip told told_marks);
  loads = map loads_behind (zip loads loads_marks);
}
