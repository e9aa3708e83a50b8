-- What a quotient and a rest are.
use Rattle.std.specs.Prelude.{◌≡◌, ◌<◌, ℤ, pos, ◌+ℤ◌, ◌*ℤ◌, ◌≤ℤ◌, unsigned_abs}

-- Dividing a by b gives this quotient, rounded toward zero, and leaves this rest: the rest is smaller than the divisor
-- and never has the sign that the dividend hasn't.
pub record IsDivision (a b quotient rest : ℤ) : Type 0 where
  pub whole : quotient *ℤ b +ℤ rest ≡ a
  pub smaller : unsigned_abs rest < unsigned_abs b
  pub not_below : pos 0 ≤ℤ a → pos 0 ≤ℤ rest
  pub not_above : a ≤ℤ pos 0 → rest ≤ℤ pos 0
