-- What a test tells.
use Rattle.std.proofs.Common.{◌≡◌, Bool, true, false, ◌&&◌, Some, None, refl}
use Rattle.std.specs.Prelude.{if◌then◌else◌}

pub record Both (a b : Bool) : Type 0 where
  pub first : a ≡ true
  pub second : b ≡ true

pub taken : {X : Type 0} (t : Bool) (x y : X) → (if t then Some x else None) ≡ Some y → (t ≡ true) × (x ≡ y)
taken true x y h = (refl, cc h)
taken false x y h = absurd (cc h)

pub both : (a b : Bool) → (a && b) ≡ true → Both a b
both true b h = record { first = refl; second = h }
both false b h = absurd (cc h)
