-- How many loads a run makes.
use Rattle.std.specs.Prelude.{ℕ, ◌+◌, List, [], ◌∷◌, length}
use Rattle.dp_tree.specs.Step.{Event}

abbrev pub loads_made : List Event → ℕ
loads_made [] = 0
loads_made (e ∷ rest) = length e.loads + loads_made rest
