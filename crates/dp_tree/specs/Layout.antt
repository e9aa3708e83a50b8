-- Where a program's variables lie: their cells come one after the other, those of the file-scope variables first.
use Rattle.std.specs.Prelude.{ℕ, ◌+◌, ◌==◌, if◌then◌else◌, Bool, true, not, ◌&&◌, ◌||◌, List, [], ◌∷◌, nat_lt}
use Rattle.std.specs.List.{list_all}
use Rattle.dp_tree.specs.declared.VarInfo.{VarInfo}
use Rattle.dp_tree.specs.Globals.{is_global_scope}

-- at least one cell, and a local variable exactly one
abbrev pub has_cells : VarInfo → Bool
has_cells x = nat_lt 0 x.length && (is_global_scope x.scope || (x.length == 1))

-- the variables have their cells one after the other, from k on
abbrev pub lies_in_order : ℕ → List VarInfo → Bool
lies_in_order k [] = true
lies_in_order k (x ∷ rest) = ((x.first.0 == k) && has_cells x) && lies_in_order (k + x.length) rest

-- the variable isn't a file-scope one
abbrev pub is_local_variable : VarInfo → Bool
is_local_variable x = not (is_global_scope x.scope)

-- no file-scope variable comes behind another one
abbrev pub globals_first : List VarInfo → Bool
globals_first [] = true
globals_first (x ∷ rest) = if is_global_scope x.scope then globals_first rest else list_all is_local_variable rest
