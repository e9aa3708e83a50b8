-- The variables of the file among all variables.
use Rattle.std.specs.Prelude.{if◌then◌else◌, Bool, true, false, List, [], ◌∷◌}
use Rattle.dp_tree.specs.declared.VarInfo.{VarInfo}
use Rattle.dp_tree.specs.declared.VarScope.{VarScope}
use Rattle.dp_tree.specs.declared.VarScope.TheVariants.{Global, Outer, Body}

-- the scope is the file
abbrev pub is_global_scope : VarScope → Bool
is_global_scope Global = true
is_global_scope Outer = false
is_global_scope (Body r) = false

-- the file-scope variables
abbrev pub globals_in : List VarInfo → List VarInfo
globals_in [] = []
globals_in (x ∷ xs) = if is_global_scope x.scope then x ∷ globals_in xs else globals_in xs
