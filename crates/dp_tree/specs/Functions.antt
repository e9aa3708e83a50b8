-- What a table of functions has.
use Rattle.std.specs.Prelude.{List, [], Option, Some, None}
use Rattle.dp_base.specs.declared.VarId.{VarId}
use Rattle.dp_tree.specs.declared.Function.{Function}
use Rattle.dp_tree.specs.declared.Stmt.{Stmt}

-- the function's body
abbrev pub body_in : Option Function → List Stmt
body_in None = []
body_in (Some f) = f.body

-- the function's parameters
abbrev pub params_in : Option Function → List VarId
params_in None = []
params_in (Some f) = f.params
