-- What the items that an epoch's units send depend on.
use Rattle.std.specs.Prelude.{ℕ}
use Rattle.dp_semantics.specs.EpochKey.{EpochKey}

-- the epoch, and how many iterations go together at most
pub record UnitsKey : Type 0 where
  pub epoch : EpochKey
  pub cap : ℕ
