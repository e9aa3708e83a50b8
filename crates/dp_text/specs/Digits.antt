-- Decimal digits and the number that they write.
use Rattle.std.specs.Prelude.{ℕ, ◌+◌, ◌-◌, ◌*◌, Bool, ◌&&◌, if◌then◌else◌, nat_le, List, [], ◌∷◌, Option, Some, None}
use Rattle.std.specs.List.{list_all}

-- one of the bytes 0 to 9
abbrev pub is_digit : ℕ → Bool
is_digit byte = nat_le 48 byte && nat_le byte 57

-- the number that a digit writes behind those of n, where it is at most `most`
abbrev pub digit_after : ℕ → ℕ → ℕ → Option ℕ
digit_after most n byte = if is_digit byte && nat_le (n * 10 + (byte - 48)) most then Some (n * 10 + (byte - 48)) else None

-- the number that digits write behind those of n
abbrev pub value_after : ℕ → List ℕ → ℕ
value_after n [] = n
value_after n (digit ∷ digits) = value_after (n * 10 + (digit - 48)) digits

-- the number that digits write, where it is at most `most`
abbrev pub value_upto : ℕ → List ℕ → Option ℕ
value_upto most digits = if list_all is_digit digits && nat_le (value_after 0 digits) most then Some (value_after 0 digits) else None
