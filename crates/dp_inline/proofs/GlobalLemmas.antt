-- The begin of the expanded text, and the whole of it.
use Rattle.std.proofs.Common.{◌≡◌, refl, [], length}
use Rattle.dp_tree.specs.declared.Program.{Program}
use Rattle.dp_calls.specs.Piece.{Piece}
use Rattle.dp_calls.specs.Tables.{first_tables}
use Rattle.dp_calls.specs.Expand.{expand, program_of}
use Rattle.dp_inline.specs.steps.Written.{after_list}

-- the begin of the text
abbrev pub start : Program → Piece
start p = record { code = []; names = []; tables = first_tables p }

pub expands : (p : Program) → program_of (after_list p (length p.functions) 0 (start p) p.main) ≡ expand p
unfolding after_list
expands p = refl
