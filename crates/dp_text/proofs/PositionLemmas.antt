-- What `position` tells.
use Rattle.std.proofs.Common.{◌≡◌, ℕ, suc, ◌+◌, ◌<◌, ◌≤◌, Bool, true, false, cond, nat_lt, List, length, Some, None, refl, rules, arith}
use Rattle.std.specs.List.{position, position_or_len}

pub next_is : (n : ℕ) → 1 + n ≡ suc n
next_is n = omega arith

some_case : (n len k : ℕ) (found : Bool) → nat_lt n len ≡ found → cond found (Some n) None ≡ Some k → (k ≡ n) × (n < len)
some_case n len k true e h = (cc h, search rules)
some_case n len k false e h = absurd (cc h)

pub position_some : (test : ℕ → Bool) (text : List ℕ) (k : ℕ) → position test text ≡ Some k → (k ≡ position_or_len test text)
    × (position_or_len test text < length text)
position_some test text k h = some_case (position_or_len test text) (length text) k _ refl h

none_case : (n len : ℕ) (found : Bool) → nat_lt n len ≡ found → cond found (Some n) None ≡ None → len ≤ n
none_case n len true e h = absurd (cc h)
none_case n len false e h = search rules

pub position_none : (test : ℕ → Bool) (text : List ℕ) → position test text ≡ None → length text ≤ position_or_len test text
position_none test text h = none_case (position_or_len test text) (length text) _ refl h
