-- Which items may come next to a unit.
use Rattle.std.specs.Prelude.{◌≡◌, ℕ, ◌+◌, Option, Some, None}

-- the one at this place, or, where a ring hands out tickets, the one at any
abbrev pub At : Option ℕ → ℕ → Type 0
At (Some next) n = n ≡ next
At None n = Unit {0}

-- .. after the one at place n
abbrev pub place_behind : Option ℕ → ℕ → Option ℕ
place_behind (Some next) n = Some (n + 1)
place_behind None n = None
