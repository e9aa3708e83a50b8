-- The names that the code holds, as expansion has them: the latest one first.
use Rattle.std.specs.Prelude.{List, [], ◌∷◌, ◌++◌}
use Rattle.dp_calls.specs.Renaming.{Renamed}
use Rattle.dp_inline.specs.declared.names.Named.{Named}

-- the names in the opposite order
abbrev pub renamed_names : List Named → List Renamed
renamed_names [] = []
renamed_names (n ∷ rest) = renamed_names rest ++ record { source = n.source; target = n.target } ∷ []
