-- The lines of variables.
use Rattle.std.specs.Prelude.{ℕ, ℤ, Bool, true, false, List, ◌++◌, codes}
use Rattle.std.specs.Fmt.{signed_decimal}
use Rattle.dp_text.specs.Labels.{labelled}
use Rattle.dp_report.specs.Lines.{line}
use Rattle.dp_tree.specs.declared.VarInfo.{VarInfo}
use Rattle.dp_tree.specs.declared.VarScope.{VarScope}
use Rattle.dp_tree.specs.declared.VarScope.TheVariants.{Global, Outer, Body}

-- whether it is an array
abbrev pub form_name : Bool → List ℕ
form_name true = codes " array"
form_name false = codes " scalar"

-- its start value
abbrev pub start_text : ℤ → List ℕ
start_text start = codes " start " ++ signed_decimal start

-- where it is declared
abbrev pub scope_text : VarScope → List ℕ
scope_text Global = codes " global"
scope_text Outer = codes " outer"
scope_text (Body region) = labelled (codes " body ") region

-- a variable's number and name, whether it is an array, its first cell, the number of its cells, its start value and its scope
abbrev pub variable_entry : ℕ → VarInfo → List ℕ
variable_entry n x =
    line (labelled (codes "var ") n ++ codes " " ++ x.name ++ form_name x.array ++ labelled (codes " first ") x.first.0
    ++ labelled (codes " length ") x.length ++ start_text x.start ++ scope_text x.scope)
