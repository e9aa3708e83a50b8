-- The least cut.
use Rattle.std.specs.Prelude.{ℕ, ◌≡◌, ◌⊎◌, List}
use Rattle.dp_least_cut.specs.declared.Stretch.{Stretch}
use Rattle.dp_least_cut.specs.Allowed.{IsAllowed}
use Rattle.dp_least_cut.specs.Order.{IsBefore}

-- The cut is allowed, and comes before every other allowed cut.
pub record IsLeastCut (weights : List ℕ) (carried : List (ℕ × ℕ)) (most workers : ℕ) (cut : List Stretch) : Type 0 where
  pub allowed : IsAllowed weights carried most cut
  pub first : (other : List Stretch) → IsAllowed weights carried most other → (cut ≡ other) ⊎ IsBefore weights workers cut other
