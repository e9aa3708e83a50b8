-- A piece of the expanded text as the code holds it, and the piece after more of the text.
use Rattle.std.specs.Prelude.{ℕ, ◌+◌, List, [], ◌∷◌, ◌++◌, length}
use Rattle.dp_tree.specs.declared.Expr.{Expr}
use Rattle.dp_tree.specs.declared.Stmt.{Stmt}
use Rattle.dp_tree.specs.declared.Program.{Program}
use Rattle.dp_tree.specs.declared.SiteInfo.{SiteInfo}
use Rattle.dp_tree.specs.declared.VarInfo.{VarInfo}
use Rattle.dp_tree.specs.Globals.{globals_in}
use Rattle.dp_tree.specs.Trace.{start_cells}
use Rattle.dp_base.specs.declared.SiteId.{SiteId}
use Rattle.dp_base.specs.declared.VarId.{VarId}
use Rattle.dp_calls.specs.Renaming.{Renamed, renamed}
use Rattle.dp_calls.specs.Tables.{Tables, with_local, with_site, with_source_site, with_region}
use Rattle.dp_calls.specs.Piece.{Piece, followed_by}
use Rattle.dp_calls.specs.Expand.{expand_one, expand_list, calls_within, declared_in, bindings}
use Rattle.dp_inline.specs.declared.piece.Writer.{Writer}

-- the tables so far
abbrev pub tables_of : Writer → Tables
tables_of w = record { vars = w.vars; cells = w.cells; sites = w.sites; regions = w.regions }

-- the piece so far
abbrev pub written : Writer → Piece
written w = record { code = w.code; names = w.names; tables = tables_of w }

-- no text yet, with these names and tables
abbrev pub emptied : Piece → Piece
emptied a = record a { code = [] }

-- the piece with one more statement
abbrev pub with_statement : Stmt → Piece → Piece
with_statement s a = record a { code = a.code ++ s ∷ [] }

-- the piece with one more site, which isn't of the program's text
abbrev pub with_binding_site : SiteInfo → Piece → Piece
with_binding_site info a = record a { tables = with_site info a.tables }

-- the piece with one more site, which is this one of the program's text
abbrev pub with_text_site : Program → ℕ → SiteId → Piece → Piece
with_text_site p r site a = record a { tables = with_source_site p r site a.tables }

-- the piece with one more variable, which stands for x from here on
abbrev pub with_new_local : Program → ℕ → ℕ → Piece → Piece
with_new_local p r x a = record a { names = record { source = x; target = length a.tables.vars } ∷ a.names; tables = with_local p r x a.tables }

-- the piece in which x is declared
abbrev pub with_declared : Program → ℕ → ℕ → Piece → Piece
with_declared p r x a = record (declared_in p r x a.names a.tables) { code = a.code }

-- the piece with one more region, which ends here
abbrev pub with_next_region : ℕ → SiteId → Piece → Piece
with_next_region line first a = record a { tables = with_region line first a.tables }

-- the piece with those of these variables that are of the file
abbrev pub with_globals : Piece → List VarInfo → Piece
with_globals a xs = record a
    { tables = record a.tables { vars = a.tables.vars ++ globals_in xs; cells = a.tables.cells + length (start_cells (globals_in xs)) } }

-- no text and no tables
abbrev pub blank : Piece
blank = record { code = []; names = []; tables = record { vars = []; cells = 0; sites = []; regions = [] } }

-- the expression in these names
unfoldable pub expr_in : List Renamed → Expr → Expr
expr_in names e = renamed names e

-- the piece after this statement, where calls nest at most so deep
unfoldable pub after_one : Program → ℕ → ℕ → Piece → Stmt → Piece
after_one p depth r a s = followed_by a (expand_one p (calls_within p depth) r s)

-- the piece after these statements
unfoldable pub after_list : Program → ℕ → ℕ → Piece → List Stmt → Piece
after_list p depth r a all = followed_by a (expand_list p (calls_within p depth) r all)

-- the piece after the bindings of arguments in the caller's names
unfoldable pub after_bindings : Program → ℕ → ℕ → List Renamed → Piece → List VarId → List Expr → Piece
after_bindings p r line caller a params args = followed_by a (bindings p r line caller params args)
