-- What a table of pages holds.
use Rattle.std.specs.Prelude.{ℤ, List}
use Rattle.dp_memory.specs.declared.table.Table.{Table}
use Rattle.dp_memory.specs.Piece.{groups_of}
use Rattle.dp_memory.specs.Pieces.{joined, InPieces}

-- the pages, in order
abbrev pub table_pages : Table → List (List ℤ)
table_pages table = joined (groups_of table.groups)

-- sixteen pages stand in each group but the last
abbrev pub InGroups : Table → Type 0
InGroups table = InPieces 16 (groups_of table.groups)
