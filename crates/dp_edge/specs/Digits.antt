-- Decimal digits and the number that they write.
use Rattle.std.specs.Prelude.{ℕ, ◌-◌, ◌^◌, Bool, true, false, ◌&&◌, if◌then◌else◌, List, [], ◌∷◌, Option, None}
use Rattle.std.specs.List.{list_all}
use Rattle.dp_text.specs.Digits.{is_digit, value_after, value_upto}

-- there is a byte
abbrev pub is_full : List ℕ → Bool
is_full [] = false
is_full (byte ∷ bytes) = true

-- one or more digits, and nothing else
abbrev pub are_digits : List ℕ → Bool
are_digits bytes = is_full bytes && list_all is_digit bytes

-- the number that digits write
abbrev pub digits_worth : List ℕ → ℕ
digits_worth = value_after 0

-- the number that one or more digits write, where it is below 2 ^ 64
abbrev pub magnitude_of : List ℕ → Option ℕ
magnitude_of bytes = if is_full bytes then value_upto (2 ^ 64 - 1) bytes else None
