-- What offends at a name of the text.
use Rattle.std.specs.Prelude.{ℕ, Bool, true, false, not, ◌==◌, List, [], ◌∷◌, Option, Some, None, is_some, if◌then◌else◌}
use Rattle.std.specs.Option.{option_or}
use Rattle.dp_tree.specs.declared.raw.Name.{Name}
use Rattle.dp_check.specs.declared.fail.CheckFail.{CheckFail}
use Rattle.dp_check.specs.declared.fail.CheckFail.TheVariants.{Unknown, Twice, NotArray, NotScalar, Arguments, ReadOnly}
use Rattle.dp_check.specs.declared.names.Meaning.{Meaning}
use Rattle.dp_check.specs.declared.names.Meaning.TheVariants.{Array, Input, InputLen, Function}
use Rattle.dp_check.specs.Names.{Named, named}

-- what a name is written for; a call gives the number of its arguments
pub data Use : Type 0 where
  Declares : Use
  Reads : Use
  ReadsElement : Use
  Assigns : Use
  AssignsElement : Use
  Calls : ℕ → Use

-- a name of the text, with the names that are visible there
pub record Token : Type 0 where
  pub name : Name
  pub purpose : Use
  pub visible : List Named

-- the name means a function
abbrev pub is_function : Option Meaning → Bool
is_function (Some (Function number params)) = true
is_function _ = false

-- the name means a variable, an array or the input
abbrev pub is_variable : Option Meaning → Bool
is_variable None = false
is_variable (Some (Function number params)) = false
is_variable _ = true

-- the name means an array or the input
abbrev pub is_array : Option Meaning → Bool
is_array (Some (Array x)) = true
is_array (Some Input) = true
is_array _ = false

-- the name means the input or its length
abbrev pub is_predeclared : Option Meaning → Bool
is_predeclared (Some Input) = true
is_predeclared (Some InputLen) = true
is_predeclared _ = false

-- a name is used that isn't a visible variable, or called that isn't a visible function
abbrev pub unknown : Use → Option Meaning → Bool
unknown Declares m = false
unknown (Calls count) m = not (is_function m)
unknown _ m = not (is_variable m)

-- a name is declared that is visible already
abbrev pub twice : Use → Option Meaning → Bool
twice Declares m = is_some m
twice _ m = false

-- what has an index isn't an array
abbrev pub not_array : Use → Option Meaning → Bool
not_array ReadsElement m = not (is_array m)
not_array AssignsElement m = not (is_array m)
not_array _ m = false

-- an array stands without an index
abbrev pub not_scalar : Use → Option Meaning → Bool
not_scalar Reads m = is_array m
not_scalar Assigns m = is_array m
not_scalar _ m = false

-- a call has another number of arguments than the function has parameters
abbrev pub arguments : Use → Option Meaning → Bool
arguments (Calls count) (Some (Function number params)) = not (params == count)
arguments _ _ = false

-- the input or its length is assigned
abbrev pub read_only : Use → Option Meaning → Bool
read_only Assigns m = is_predeclared m
read_only AssignsElement m = is_predeclared m
read_only _ m = false

-- the first offence of a name with this use and meaning, on this line
abbrev pub offence_of : ℕ → Use → Option Meaning → Option CheckFail
offence_of line u m =
    if unknown u m then Some (Unknown line)
    else (if twice u m then Some (Twice line)
    else (if not_array u m then Some (NotArray line)
    else (if not_scalar u m then Some (NotScalar line)
    else (if arguments u m then Some (Arguments line)
    else (if read_only u m then Some (ReadOnly line) else None)))))

-- the first offence of a name of the text
abbrev pub offence : Token → Option CheckFail
offence t = offence_of t.name.line t.purpose (named t.visible t.name.text)

-- the offence of the first name that offends
abbrev pub first_offence : List Token → Option CheckFail
first_offence [] = None
first_offence (t ∷ rest) = option_or (offence t) (first_offence rest)
