-- Cells that are marked, one after the other.
use Rattle.std.proofs.Common.{◌≡◌, refl, ℕ, ◌+◌, ◌≤◌, ◌==◌, if◌then◌else◌, ◌||◌, ◌&&◌, Bool, true, false, nat_le, nat_lt, arith}

pub marked_next : (x : Bool) (first i k : ℕ) → first ≤ i → (if k == i then true else (x || (nat_le first k && nat_lt k i)))
    ≡ (x || (nat_le first k && nat_lt k (i + 1)))
marked_next true first i k h = by (k == i)
  where
    by : (b : Bool) → (if b then true else true) ≡ true
    by true = refl
    by false = refl
marked_next false first i k h = grind (arith)

pub ruleset marks = (marked_next)
