-- The entries of a log, and where the cell of each leads.
use Rattle.std.specs.Prelude.{◌≡◌, ℕ, List, Some, slice_get}
use Rattle.dp_columns.specs.declared.Pair.{Pair}

-- each entry's cell leads back to its place
abbrev pub LeadBack : List Pair → List ℕ → Type 0
LeadBack entries places = (k : ℕ) (e : Pair) → slice_get entries k ≡ Some e → slice_get places e.cell ≡ Some k
