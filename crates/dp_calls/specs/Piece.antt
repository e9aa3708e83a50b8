-- A piece of an expanded text, and how pieces are put together.
use Rattle.std.specs.Prelude.{List, [], ◌∷◌, ◌++◌}
use Rattle.dp_tree.specs.declared.Stmt.{Stmt}
use Rattle.dp_calls.specs.Renaming.{Renamed}
use Rattle.dp_calls.specs.Tables.{Tables}

-- a piece of the expanded text, with the names and the tables after it
pub record Piece : Type 0 where
  pub code : List Stmt
  pub names : List Renamed
  pub tables : Tables

-- no text
abbrev pub nothing : List Renamed → Tables → Piece
nothing names t = record { code = []; names = names; tables = t }

-- the second piece, with the first one's text before its own
abbrev pub piece_behind : Piece → Piece → Piece
piece_behind a b = record b { code = a.code ++ b.code }

-- a piece, and the one that goes on from it
abbrev pub followed_by : Piece → (List Renamed → Tables → Piece) → Piece
followed_by a next = piece_behind a (next a.names a.tables)

-- this statement alone
abbrev pub alone : Stmt → Piece → Piece
alone s a = record a { code = s ∷ [] }

-- a piece whose code stands inside a statement
abbrev pub inside : (List Stmt → Stmt) → Piece → Piece
inside make a = alone (make a.code) a
