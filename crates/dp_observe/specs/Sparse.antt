-- The items of a list that goes on for ever.
use Rattle.std.specs.Prelude.{ℕ, get_or}
use Rattle.dp_observe.specs.declared.sparse.Sparse.{Sparse}

-- the item at a place
abbrev pub at : {T : Type 0} → Sparse T → ℕ → T
at s place = get_or s.items place s.rest
