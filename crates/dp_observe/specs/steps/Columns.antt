-- The counts of columns.
use Rattle.std.specs.Prelude.{ℕ, List}
use Rattle.std.specs.Ordering.{nat_cmp}
use Rattle.std.specs.Option.{unwrap_or}
use Rattle.std.specs.BTreeMap.{is_at}
use Rattle.std.specs.Map.{lookup}

-- the count of a column, 0 where it wasn't counted
abbrev pub at_column : List (ℕ × ℕ) → ℕ → ℕ
at_column counts column = unwrap_or (lookup (is_at (nat_cmp column)) counts) 0
