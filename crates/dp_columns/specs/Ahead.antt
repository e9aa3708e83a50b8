-- How far events were read.
use Rattle.std.specs.Prelude.{◌≡◌, ◌≤◌, suc, List, take, length, Option, Some, None, slice_get}
use Rattle.std.specs.List.{sum_by}
use Rattle.dp_tree.specs.Eval.{Load}
use Rattle.dp_columns.specs.Lent.{IsPart}
use Rattle.dp_columns.specs.declared.events.Mark.{Mark}
use Rattle.dp_columns.specs.declared.events.Next.{Next}

-- So many events were read, and so many pairs with them.
abbrev pub IsReached : List (List Load) → Mark → Type 0
IsReached ended mark = mark.from ≡ sum_by length (take mark.at ended)

-- The event at the mark, and the mark behind it.
pub record IsNextEvent (ended : List (List Load)) (mark : Mark) (next : Next) : Type 0 where
  pub event : List Load
  pub found : slice_get ended mark.at ≡ Some event
  pub part : IsPart event next.part
  pub behind : next.behind.at ≡ suc mark.at
  pub fits : IsReached ended next.behind

-- .. or there is none
abbrev pub FindsNext : List (List Load) → Mark → Option Next → Type 0
FindsNext ended mark (Some next) = IsNextEvent ended mark next
FindsNext ended mark None = length ended ≤ mark.at
