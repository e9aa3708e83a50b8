-- Files as a shelf.
use Rattle.std.specs.Prelude.{ℕ}

-- what the shelf has counted
pub record ShelfCounts : Type 0 where
  pub faults : ℕ
  pub taken : ℕ
